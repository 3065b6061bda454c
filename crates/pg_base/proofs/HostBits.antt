-- The bits of an address after its first ones.
use Rattle.std.proofs.Common.{◌≡◌, ◌∙◌, ℕ, zero, suc, ◌+◌, ◌-◌, ◌*◌, ◌/◌, ◌%◌, ◌^◌, ◌<◌, ◌≤◌, ◌==◌, nat_lt, List}
use Rattle.std.proofs.Common.{[], ◌∷◌, length, refl, ap, arith, inl, inr, add-one, lt-ltb, le-ltb, eq-eqb, ne_eqb}
use Rattle.std.specs.Prelude.{not}
use Rattle.std.specs.Int.{w32, w128, from_be_bytes, trailing_zeros}
use Rattle.std.specs.Int.Digits.{number_from_digits}
use Rattle.std.specs.Net.Addr.{ipv4_octets, ipv6_octets, ipv6_segments, octets_of, ipv4_bits, ipv6_bits}
use Rattle.std.specs.declared.net.ipv4_addr.Ipv4Addr.{Ipv4Addr}
use Rattle.std.specs.declared.net.ipv6_addr.Ipv6Addr.{Ipv6Addr}
use Rattle.std.proofs.lemmas.Bool.{cases_eq, cases_lt}
use Rattle.std.proofs.lemmas.Nat.{mod-pow-add}
use lib.Count.{count_trailing_zeros, under}
use Rattle.pg_base.specs.Network.{host_part}

number-4 : (os : List ℕ) → length os ≡ 4 → from_be_bytes w32 os ≡ number_from_digits 256 os
number-4 (a ∷ b ∷ c ∷ d ∷ []) h = omega arith
number-4 _ h = absurd (omega arith)

number-16 : (os : List ℕ) → length os ≡ 16 → from_be_bytes w128 os ≡ number_from_digits 256 os
number-16 (a ∷ b ∷ c ∷ d ∷ e ∷ f ∷ g ∷ h ∷ i ∷ j ∷ k ∷ l ∷ m ∷ n ∷ o ∷ p ∷ []) len = omega arith
number-16 _ len = absurd (omega arith)

-- the lowest bit r is 0 where the number ends in a zero, and the zeros above it are one fewer
even : (r t k : ℕ) → suc k ≤ under r t → (r ≡ 0) × (k ≤ t)
even zero t k h = (refl, omega arith)
even (suc r) t k h = absurd (omega arith)

above : (r t k : ℕ) → r ≡ 0 → k ≤ t → suc k ≤ under r t
above zero t k e h = omega arith
above (suc r) t k e h = absurd (omega arith)

last_bit_apart : (n k : ℕ) → n % 2 ^ suc k ≡ n / 2 % 2 ^ k * 2 + n % 2
last_bit_apart n k = rw (← add-one k) (mod-pow-add n k 1)

-- 2 ^ k divides what ends in k zeros
zeros-divide : (d n k : ℕ) → k ≤ count_trailing_zeros d n → n % 2 ^ k ≡ 0
unfolding count_trailing_zeros
zeros-divide d n zero zeros = omega arith
zeros-divide zero n (suc k) zeros = absurd (omega arith)
zeros-divide (suc d) n (suc k) zeros =
    let e = even (n % 2) (count_trailing_zeros d (n / 2)) k zeros in
    let rest = zeros-divide d (n / 2) k e.1 in
    rw (last_bit_apart n k, rest, e.0) refl

-- what 2 ^ k divides ends in k zeros
divided-zeros : (d n k : ℕ) → k ≤ d → n % 2 ^ k ≡ 0 → k ≤ count_trailing_zeros d n
unfolding count_trailing_zeros
divided-zeros d n zero h divides = omega arith
divided-zeros zero n (suc k) h divides = absurd (omega arith)
divided-zeros (suc d) n (suc k) h divides =
    let whole = last_bit_apart n k in
    above (n % 2) (count_trailing_zeros d (n / 2)) k (omega arith)
    (divided-zeros d (n / 2) k (omega arith) (omega arith))

-- n has fewer zeros at its end than that exactly where 2 ^ (d - len) does not divide it
module _ (d n len : ℕ) where
  all_zeros : n % 2 ^ (d - len) ≡ 0 → nat_lt (len + count_trailing_zeros d n) d ≡ not (n % 2 ^ (d - len) == 0)
  all_zeros divides =
      let zeros = divided-zeros d n (d - len) (omega arith) divides in
      rw (eq-eqb (n % 2 ^ (d - len)) 0 divides, le-ltb (len + count_trailing_zeros d n) d (omega arith)) refl

  some_one : (n % 2 ^ (d - len) ≡ 0 → ⊥) → nat_lt (len + count_trailing_zeros d n) d ≡ not (n % 2 ^ (d - len) == 0)
  some_one other =
      let few : len + count_trailing_zeros d n < d =
      elim (cases_lt (len + count_trailing_zeros d n) d) [
        | inl fewer ↦ fewer
        | inr more ↦ absurd (other (zeros-divide d n (d - len) (omega arith)))
      ] in
      rw (ne_eqb (n % 2 ^ (d - len)) 0 other, lt-ltb (len + count_trailing_zeros d n) d few) refl

  ends : nat_lt (len + count_trailing_zeros d n) d ≡ not (n % 2 ^ (d - len) == 0)
  ends = elim (cases_eq (n % 2 ^ (d - len)) 0) [ inl divides ↦ all_zeros divides | inr other ↦ some_one other ]

length-octets_of : (segments : List ℕ) → length (octets_of segments) ≡ 2 * length segments
length-octets_of [] = refl
length-octets_of (s ∷ segments) = omega (arith, length-octets_of segments)

-- the zeros at an IPv4 address's end tell whether it has host bits
pub v4_host_part : (a : Ipv4Addr) (len : ℕ) → length (ipv4_octets a) ≡ 4
    → nat_lt (len + trailing_zeros w32 (ipv4_bits a)) 32 ≡ not (host_part (ipv4_octets a) len == 0)
unfolding ipv4_bits
v4_host_part a len h =
    ends 32 (ipv4_bits a) len ∙ (rw (number-4 (ipv4_octets a) h, h) refl)

-- and at an IPv6 address's end
pub v6_host_part : (a : Ipv6Addr) (len : ℕ) → length (ipv6_segments a) ≡ 8
    → nat_lt (len + trailing_zeros w128 (ipv6_bits a)) 128 ≡ not (host_part (ipv6_octets a) len == 0)
unfolding ipv6_bits
v6_host_part a len h =
    let sixteen : length (ipv6_octets a) ≡ 16 = length-octets_of (ipv6_segments a) ∙ ap (λ k. 2 * k) h in
    ends 128 (ipv6_bits a) len ∙ (rw (number-16 (ipv6_octets a) sixteen, sixteen) refl)
