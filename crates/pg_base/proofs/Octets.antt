-- Octets of addresses.
use Rattle.std.proofs.Common.{◌≡◌, ℕ, suc, ◌+◌, ◌-◌, ◌*◌, ◌/◌, ◌%◌, ◌<◌, List, [], ◌∷◌, length, get_or, refl, arith}
use Rattle.std.specs.Net.Addr.{octets_of, segments_of}

-- a high and a low octet are those of the segment that they make
high : (a b : ℕ) → b < 256 → (a * 256 + b) / 256 ≡ a
high a b h = omega arith

low : (a b : ℕ) → b < 256 → (a * 256 + b) % 256 ≡ b
low a b h = omega arith

-- each segment gives its two octets back
pairs-back : (os : List ℕ) (k : ℕ) → length os ≡ k + k → ((i : ℕ) → get_or os i 0 < 256) → octets_of (segments_of os)
    ≡ os
pairs-back [] k h small = refl
pairs-back (a ∷ []) k h small = absurd (omega arith)
pairs-back (a ∷ b ∷ os) k h small =
    let rest = pairs-back os (k - 1) (omega arith) (λ i. small (suc (suc i))) in
    rw (high a b (small 1), low a b (small 1), rest) refl

-- sixteen octets are those of their segments
pub octets_back : (os : List ℕ) → length os ≡ 16 → ((i : ℕ) → get_or os i 0 < 256) → octets_of (segments_of os) ≡ os
octets_back os h small = pairs-back os 8 h small
