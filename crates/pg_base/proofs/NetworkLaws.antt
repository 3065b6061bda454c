-- Laws of addresses: their formats are grammars.
use Rattle.std.specs.Prelude.{◌≡◌, ℕ, ◌*◌, ◌/◌, ◌%◌, ◌≤◌, ◌==◌, List, [], ◌∷◌, ◌++◌, length, drop, slice_index}
use Rattle.std.specs.Prelude.{None, true, refl}
use Rattle.std.proofs.Common.{sym, ◌∙◌, ap, arith, eq-eqb, le-leb}
use Rattle.std.specs.Net.Addr.{ipv4_octets, ipv6_segments, octets_of}
use Rattle.std.specs.declared.net.ip_addr.IpAddr.{IpAddr}
use Rattle.std.specs.declared.net.ip_addr.IpAddr.TheVariants.{V4, V6}
use Rattle.pg_types.specs.Faults.{host_bits}
use Rattle.pg_base.specs.Formats.{Checks, IsGrammar, first_fault_of}
use Rattle.pg_base.specs.Network.{FormAddress, FormCidr, FormInet, Network, address_len, address_octets, family_of}
use Rattle.pg_base.specs.Network.{first_fault_cidr, first_fault_inet, host_part, inet_checks, network_bytes}
use Rattle.pg_base.specs.Network.{head_len, host_check, with_netmask}

-- segments of the same octets are the same
same_segments : (s t : List ℕ) → octets_of s ≡ octets_of t → s ≡ t
same_segments [] [] h = refl
same_segments [] (y ∷ t) h = cc
same_segments (x ∷ s) [] h = cc
same_segments (x ∷ s) (y ∷ t) h =
    let high : x / 256 ≡ y / 256 = cc in
    let low : x % 256 ≡ y % 256 = cc in
    let rest : octets_of s ≡ octets_of t = cc in
    let first : x ≡ y = omega arith in
    let more : s ≡ t = same_segments s t rest in
    cc

-- addresses of one family with the same octets are the same
same_address : (a b : IpAddr) → family_of a ≡ family_of b → address_octets a ≡ address_octets b → a ≡ b
same_address (V4 a) (V4 b) f h = ap (λ o. V4 (record { octets = o })) h
same_address (V4 a) (V6 b) f h = absurd (omega arith)
same_address (V6 a) (V4 b) f h = absurd (omega arith)
same_address (V6 a) (V6 b) f h = ap (λ s. V6 (record { segments = s }))
    (same_segments (ipv6_segments a) (ipv6_segments b) h)

-- the bytes of an address with its netmask meet the checks of INET, and other checks are left
checks_hold : (more : Checks) (flag : ℕ) (a : IpAddr) (masklen : ℕ) → length (address_octets a) ≡ address_len a
    → masklen ≤ 8 * address_len a
    → first_fault_of (inet_checks (network_bytes flag (with_netmask a masklen)) ++ more) ≡ first_fault_of more
checks_hold more flag (V4 a) masklen len fits =
    let whole : head_len ≤ length (network_bytes flag (with_netmask (V4 a) masklen)) = omega arith in
    rw (le-leb head_len _ whole, le-leb masklen 32 fits, eq-eqb (length (ipv4_octets a)) 4 len) refl
checks_hold more flag (V6 a) masklen len fits =
    let whole : head_len ≤ length (network_bytes flag (with_netmask (V6 a) masklen)) = omega arith in
    rw (le-leb head_len _ whole, le-leb masklen 128 fits, eq-eqb (length (octets_of (ipv6_segments a))) 16 len) refl

inet_single : (b : List ℕ) (n m : Network) → FormInet b n → FormInet b m → n ≡ m
inet_single b n m h k =
    let bytes : network_bytes h.flag n ≡ network_bytes k.flag m = sym h.is ∙ k.is in
    let family : family_of n.address ≡ family_of m.address = cc in
    let octets : address_octets n.address ≡ address_octets m.address = cc in
    let masklen : n.masklen ≡ m.masklen = cc in
    let address : n.address ≡ m.address = same_address n.address m.address family octets in
    let same : with_netmask n.address n.masklen ≡ with_netmask m.address m.masklen = cc in
    same

inet_passes : (b : List ℕ) (n : Network) → FormInet b n → first_fault_inet b ≡ None
inet_passes b n h = ap first_fault_inet h.is ∙ checks_hold [] h.flag n.address n.masklen h.len h.fits

pub inet_grammar : IsGrammar (λ n m. n ≡ m) FormInet first_fault_inet
inet_grammar = record { passes = inet_passes; single = inet_single }

cidr_passes : (b : List ℕ) (n : Network) → FormCidr b n → first_fault_cidr b ≡ None
cidr_passes b n h =
    let at_mask : slice_index b 1 ≡ n.masklen = ap (λ s. slice_index s 1) h.0.is in
    let octets = drop head_len b in
    let octets_are : octets ≡ address_octets n.address = ap (drop head_len) h.0.is in
    let clear : (host_part octets (slice_index b 1) == 0) ≡ true = rw (octets_are, at_mask) (eq-eqb _ 0 h.1) in
    let last = host_check octets (slice_index b 1) ∷ [] in
    let others : first_fault_cidr b ≡ first_fault_of last =
    ap (λ s. first_fault_of (inet_checks s ++ last)) h.0.is
    ∙ checks_hold last h.0.flag n.address n.masklen h.0.len h.0.fits in
    others ∙ ap (λ t. first_fault_of ((t, host_bits) ∷ [])) clear

pub cidr_grammar : IsGrammar (λ n m. n ≡ m) FormCidr first_fault_cidr
cidr_grammar = record { passes = cidr_passes; single = λ b n m h k. inet_single b n m h.0 k.0 }

pub address_grammar : IsGrammar (λ a b. a ≡ b) FormAddress first_fault_inet
address_grammar = record {
  passes = λ b a h. inet_passes b (with_netmask a h.0) h.1;
  single = λ b a c h k. ap (λ n. n.address) (inet_single b (with_netmask a h.0) (with_netmask c k.0) h.1 k.1);
}
