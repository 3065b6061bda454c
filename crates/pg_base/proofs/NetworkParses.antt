-- Lemmas on what a text says of a network.
use Rattle.std.proofs.Common.{◌≡◌, ℕ, ◌==◌, ◌<◌, ◌≤◌, List, ◌∷◌, drop, length, take, sym, subst, ◌∙◌, ap, arith}
use Rattle.std.proofs.Common.{get_or, refl, [], IfSome, IsSome, Option, Some, None, Result, Ok, Err, Bool, false, true}
use Rattle.std.proofs.Common.{inl, inr, IsTrue, leb, ◌↔◌}
use Rattle.std.proofs.NetLemmas.Theorems.{IsIpText_unique}
use Rattle.std.proofs.lemmas.Bool.{and_from, and_parts, eq-eqb, lt-leb, le-leb, leb-true}
use Rattle.std.proofs.lemmas.List.{drop_more}
use Rattle.std.proofs.lemmas.Str.Parse.{IsDigitsTest, numerals_by_value}
use Rattle.std.specs.Char.{is_ascii_digit}
use Rattle.std.specs.List.{after_first, list_all}
use Rattle.std.specs.Net.Grammar.{IsIpText}
use Rattle.std.specs.Str.Parse.{digits_value, without_leading_plus}
use Rattle.std.specs.declared.net.ip_addr.IpAddr.{IpAddr}
use Rattle.std.specs.declared.net.ip_addr.IpAddr.TheVariants.{V4, V6}
use Rattle.pg_base.specs.Network.{NetmaskFits, Network, NetworkOrFault, NoHostBits, address_bits, family_of}
use Rattle.pg_base.specs.Network.{first_fault_netmask, first_fault_network, netmask_fits}
use Rattle.pg_types.specs.Faults.{Answers, NeverMemory, Refusal, netmask, refusal_of}
use Rattle.pg_types.specs.declared.fault.Fault.{Fault}
use Rattle.pg_base.specs.NetworkTexts.{ParsesNetwork, RefusesLength, RefusesNetwork, SaysNetmask, SaysNetwork, slash_place}
use Rattle.pg_base.specs.NumberTexts.{SaysUnsigned}

-- digits are what a number's text has
digits_told : IsDigitsTest (λ ds. list_all is_ascii_digit ds ≡ true)
digits_told = record {
  empty = refl;
  parts = λ c cs e.
      let both = and_parts (is_ascii_digit c) (list_all is_ascii_digit cs) e in
      let ends = and_parts (leb 48 c) (leb c 57) both.0 in ((leb-true 48 c ends.0, leb-true c 57 ends.1), both.1);
  more = λ c cs k e. and_from _ _ (and_from _ _ (le-leb 48 c k.0) (le-leb c 57 k.1)) e;
}

pub number_told : (text digits : List ℕ) → without_leading_plus text ≡ digits → 0 < length digits → (told : Bool)
    → told ≡ list_all is_ascii_digit digits → IsTrue told ↔ ((number : ℕ) × SaysUnsigned text number)
number_told text digits e some told is =
    let model = numerals_by_value (λ ds. list_all is_ascii_digit ds ≡ true) digits_told in (
      λ all. (
        digits_value 10 (without_leading_plus text),
        ((rw e some, rw e (model.to digits (sym is ∙ all))), refl),
      ),
      λ said. is ∙ model.from digits (rw (sym e) said.1.0.1),
    )

-- the text and the same in its two parts
pub in_parts : (text host rest : List ℕ) (n : Network) → take (slash_place text) text ≡ host
    → drop (slash_place text) text ≡ rest → SaysNetwork text n → IsIpText host n.address × SaysNetmask rest n
in_parts text host rest n e f s = (subst (λ t. IsIpText t n.address) e s.0, subst (λ t. SaysNetmask t n) f s.1)

-- a text with a slash says the netmask's length after it
pub after_slash : (text len : List ℕ) (n : Network) → len ≡ after_first (λ byte. byte == 47) text
    → slash_place text < length text → SaysNetwork text n → SaysUnsigned len n.masklen
after_slash text len n e at said =
    let rest : drop (slash_place text) text ≡ get_or text (slash_place text) 0 ∷ len =
    drop_more text (slash_place text) 0 at ∙ ap (λ t. get_or text (slash_place text) 0 ∷ t) (sym e) in
    (in_parts text _ _ n refl rest said).1

-- a netmask that fits is not longer than 128 bits
of_address : (a : IpAddr) (len : ℕ) → len ≤ address_bits a → 255 < len → ⊥
of_address (V4 a) len le long = omega (arith, le)
of_address (V6 a) len le long = omega (arith, le)

pub too_long : (n : Network) → 255 < n.masklen → NetmaskFits n → ⊥
too_long n long fits = of_address n.address n.masklen fits long

-- and one that is longer is refused for that first
of_family : (a : IpAddr) (len : ℕ) → 255 < len → netmask_fits (family_of a) len ≡ false
of_family (V4 a) len long = lt-leb len 32 (omega (arith, long))
of_family (V6 a) len long = lt-leb len 128 (omega (arith, long))

pub long_netmask : (n : Network) → 255 < n.masklen → first_fault_netmask n ≡ Some netmask
long_netmask n long = rw (of_family n.address n.masklen long) refl

pub long_network : (n : Network) → 255 < n.masklen → first_fault_network n ≡ Some netmask
long_network n long = rw (of_family n.address n.masklen long) refl

-- a text whose netmask is no number of a byte is refused, and says no shorter one
pub refuses_network : (text host len : List ℕ) (address : IpAddr) (fault : Option Refusal)
    → len ≡ after_first (λ byte. byte == 47) text → slash_place text < length text
    → take (slash_place text) text ≡ host → IsIpText host address → RefusesLength len fault
    → RefusesNetwork first_fault_netmask text fault
refuses_network text host len address fault e at f is (inl none) =
    inl (λ n said. none.0 n.masklen (after_slash text len n e at said), none.1)
refuses_network text host len address fault e at f is (inr long) =
    let n : Network = record { address = address; masklen = long.0 } in
    let rest : drop (slash_place text) text ≡ get_or text (slash_place text) 0 ∷ len =
    drop_more text (slash_place text) 0 at ∙ ap (λ t. get_or text (slash_place text) 0 ∷ t) (sym e) in
    inr (
      n,
      (subst (λ t. IsIpText t address) (sym f) is, subst (λ t. SaysNetmask t n) (sym rest) long.1),
      long.3 ∙ sym (long_netmask n long.2),
    )

pub refuses_long : (text len : List ℕ) (fault : Option Refusal) → len ≡ after_first (λ byte. byte == 47) text
    → slash_place text < length text → RefusesLength len fault → (n : Network) → SaysNetwork text n → 255 < n.masklen
refuses_long text len fault e at (inl none) n said = absurd (none.0 n.masklen (after_slash text len n e at said))
refuses_long text len fault e at (inr long) n said =
    let same : n.masklen ≡ long.0 = (after_slash text len n e at said).1 ∙ sym long.1.1 in omega (arith, same, long.2)

-- a text says one network
same_len : (rest : List ℕ) (n m : Network) → n.address ≡ m.address → SaysNetmask rest n → SaysNetmask rest m
    → n.masklen ≡ m.masklen
same_len [] n m e a b = a ∙ ap address_bits e ∙ sym b
same_len (slash ∷ len) n m e a b = a.1 ∙ sym b.1

says_one : (text : List ℕ) (n m : Network) → SaysNetwork text n → SaysNetwork text m → n ≡ m
says_one text n m a b =
    let address = IsIpText_unique _ n.address m.address a.0 b.0 in
    let len = same_len _ n m address a.1 b.1 in
    λ i. record { address = address i; masklen = len i }

-- what fits passes the checks
pub fit_passes : (n : Network) → NetmaskFits n → first_fault_netmask n ≡ None
fit_passes n fits = rw (le-leb n.masklen (address_bits n.address) fits) refl

pub network_passes : (n : Network) → NetmaskFits n × NoHostBits n → first_fault_network n ≡ None
network_passes n fits = rw (le-leb n.masklen (address_bits n.address) fits.0, eq-eqb _ 0 fits.1) refl

-- a network that is refused is none that passes
refused : (o : Option Refusal) (fault : Option Refusal) → IfSome o (λ r. fault ≡ Some r) → IsSome o → fault ≡ None → ⊥
refused None fault h some e = let bad : false ≡ true = some in cc
refused (Some r) fault h some e = let bad : None ≡ Some r = sym e ∙ h in cc

-- the fault is that of the first check
same_fault : (o : Option Refusal) (fault : Option Refusal) → IfSome o (λ r. fault ≡ Some r) → IsSome o → o ≡ fault
same_fault None fault h some = let bad : false ≡ true = some in cc
same_fault (Some r) fault h some = sym h

-- the network that a text says is read where it passes the checks
pub parses : (kind : Network → Type 0) (first_fault : Network → Option Refusal)
    → ((n : Network) → kind n → first_fault n ≡ None) → (text : List ℕ) (m : Network) (r : Result Network Fault)
    → SaysNetwork text m → Answers (NetworkOrFault m (first_fault m)) r → NeverMemory r
    → ParsesNetwork kind first_fault text r
parses kind first_fault passes text m (Ok n) said h never = subst (SaysNetwork text) (sym h.0) said
parses kind first_fault passes text m (Err f) said h never = (
  λ n says fits.
      refused (refusal_of f) (first_fault m) h never
      (subst (λ x. first_fault x ≡ None) (says_one text n m says said) (passes n fits)),
  inr (m, said, same_fault (refusal_of f) (first_fault m) h never),
)

-- and a text that says none, or one whose netmask is too long for its address, is refused
pub parses_none : (kind : Network → Type 0) (first_fault : Network → Option Refusal)
    → ((n : Network) → 255 < n.masklen → (kind n → ⊥) × (first_fault n ≡ Some netmask)) → (text : List ℕ) (f : Fault)
    → ((n : Network) → SaysNetwork text n → 255 < n.masklen)
    → RefusesNetwork first_fault_netmask text (refusal_of f) → ParsesNetwork kind first_fault text (Err f)
parses_none kind first_fault long text f is_long (inl none) =
    (λ n says fits. (long n (is_long n says)).0 fits, inl none)
parses_none kind first_fault long text f is_long (inr m) = (
  λ n says fits. (long n (is_long n says)).0 fits,
  inr (m.0, m.1, m.2 ∙ long_netmask m.0 (is_long m.0 m.1) ∙ sym (long m.0 (is_long m.0 m.1)).1),
)
