-- The checks of INET and CIDR are complete.
use Rattle.std.specs.Prelude.{◌≡◌, ◌⊎◌, [], ◌∷◌, ℕ, suc, ◌*◌, ◌==◌, ◌||◌, ◌≤◌, List, length, drop, slice_index}
use Rattle.std.specs.Prelude.{Option, None, true, nat_le, refl}
use Rattle.std.proofs.Common.{sym, ◌∙◌, ap, arith, inl, inr}
use Rattle.std.proofs.lemmas.Bool.{eqb-true, leb-true}
use Rattle.std.proofs.lemmas.Bool.Decides.{nat_tests}
use Rattle.std.specs.Net.Addr.{segments_of}
use Rattle.std.specs.declared.net.ip_addr.IpAddr.TheVariants.{V4, V6}
use Rattle.pg_base.proofs.Completeness.{both_pass, first_passes}
use Rattle.pg_base.proofs.Octets.{octets_back}
use Rattle.pg_base.specs.Cells.{AreBytes}
use Rattle.pg_base.specs.Formats.{IsComplete, first_fault_of}
use Rattle.pg_base.specs.Network.{FormAddress, FormCidr, FormInet, Network, first_fault_cidr, first_fault_inet}
use Rattle.pg_base.specs.Network.{family_len, head_len, host_check, host_part, inet_checks, with_netmask}
use Rattle.pg_types.specs.Faults.{Refusal, address_length, family, host_bits, netmask, size}

-- bytes that pass the checks of the netmask, of the number of octets and of their length
record IsAddress (len m l : ℕ) (octets : List ℕ) : Type 0 where
  pub fits : m ≤ 8 * len
  pub number : l ≡ len
  pub whole : length octets ≡ len

is_address : (len m l : ℕ) (octets : List ℕ)
    → first_fault_of ((nat_le m (8 * len), netmask) ∷ (l == len, address_length) ∷ (length octets == len, size) ∷ [])
    ≡ None → IsAddress len m l octets
is_address len m l octets e =
    let mask = first_passes (nat_le m (8 * len)) netmask _ e in
    let number = first_passes (l == len) address_length _ mask.1 in
    let whole = first_passes (length octets == len) size None number.1 in
    record {
      fits = leb-true m (8 * len) mask.0;
      number = eqb-true l len number.0;
      whole = eqb-true (length octets) len whole.0;
    }

-- the family's number is one of two
two_families : (f : ℕ) → (f == 2 || f == 3) ≡ true → (f ≡ 2) ⊎ (f ≡ 3)
two_families f h = grind (arith, nat_tests)

-- the checks after the family's
abbrev later_checks : ℕ → ℕ → ℕ → List ℕ → Option Refusal
later_checks f m l octets =
    first_fault_of ((nat_le m (8 * family_len f), netmask) ∷ (l == family_len f, address_length)
    ∷ (length octets == family_len f, size) ∷ [])

ipv4_complete : (f m flag l : ℕ) (octets : List ℕ) → f ≡ 2 → later_checks f m l octets ≡ None
    → (n : Network) × FormInet (f ∷ m ∷ flag ∷ l ∷ octets) n
ipv4_complete f m flag l octets two e =
    let p = is_address 4 m l octets (ap (λ g. later_checks g m l octets) (sym two) ∙ e) in (
      with_netmask (V4 (record { octets = octets })) m,
      record { flag = flag; is = rw (two, p.number) refl; len = p.whole; fits = p.fits },
    )

ipv6_complete : (f m flag l : ℕ) (octets : List ℕ) → AreBytes octets → f ≡ 3 → later_checks f m l octets ≡ None
    → (n : Network) × FormInet (f ∷ m ∷ flag ∷ l ∷ octets) n
ipv6_complete f m flag l octets h three e =
    let p = is_address 16 m l octets (ap (λ g. later_checks g m l octets) (sym three) ∙ e) in
    let back = octets_back octets p.whole h in (
      with_netmask (V6 (record { segments = segments_of octets })) m,
      record {
        flag = flag;
        is = rw (three, p.number) (ap (λ o. 3 ∷ m ∷ flag ∷ 16 ∷ o) (sym back));
        len = ap length back ∙ p.whole;
        fits = p.fits;
      },
    )

pub inet_complete : IsComplete FormInet first_fault_inet
inet_complete [] h e = let no : ⊥ = cc in absurd no
inet_complete (f ∷ []) h e = let no : ⊥ = cc in absurd no
inet_complete (f ∷ m ∷ []) h e = let no : ⊥ = cc in absurd no
inet_complete (f ∷ m ∷ flag ∷ []) h e = let no : ⊥ = cc in absurd no
inet_complete (f ∷ m ∷ flag ∷ l ∷ octets) h e =
    let four = first_passes (nat_le head_len (length (f ∷ m ∷ flag ∷ l ∷ octets))) size _ e in
    let one = first_passes (f == 2 || f == 3) family _ four.1 in
    elim (two_families f one.0) [
      | inl two ↦ ipv4_complete f m flag l octets two one.1
      | inr three ↦ ipv6_complete f m flag l octets (λ i. h (suc (suc (suc (suc i))))) three one.1
    ]

pub cidr_complete : IsComplete FormCidr first_fault_cidr
cidr_complete b h e =
    let octets = drop head_len b in
    let parts = both_pass (inet_checks b) (host_check octets (slice_index b 1) ∷ []) e in
    let p = inet_complete b h parts.0 in
    let none : host_part octets (slice_index b 1) ≡ 0 = eqb-true _ 0 (first_passes _ host_bits None parts.1).0 in
    (p.0, (p.1, ap (λ s. host_part (drop head_len s) (slice_index s 1)) (sym p.1.is) ∙ none))

pub host_complete : IsComplete FormAddress first_fault_inet
host_complete b h e = let p = inet_complete b h e in (p.0.address, (p.0.masklen, p.1))
