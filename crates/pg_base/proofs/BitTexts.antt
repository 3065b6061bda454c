-- Lemmas on the texts of bits.
use Rattle.std.proofs.Common.{◌≡◌, ℕ, zero, suc, ◌+◌, List, [], ◌∷◌, ◌++◌, Bool, Some, take, ap, add-one}
use Rattle.std.specs.List.{slice_get}
use Rattle.pg_base.specs.Bits.{bit_digit, bits_text}

suc_more : (v : List Bool) (i : ℕ) (bit : Bool) → slice_get v i ≡ Some bit
    → bits_text (take (suc i) v) ≡ bits_text (take i v) ++ bit_digit bit ∷ []
suc_more [] i bit e = absurd (cc)
suc_more (x ∷ xs) zero bit e = let same : x ≡ bit = cc in ap (λ b. bit_digit b ∷ []) same
suc_more (x ∷ xs) (suc i) bit e = ap (λ v. bit_digit x ∷ v) (suc_more xs i bit e)

-- one more bit
pub bits_more : (v : List Bool) (i : ℕ) (bit : Bool) → slice_get v i ≡ Some bit
    → bits_text (take (i + 1) v) ≡ bits_text (take i v) ++ bit_digit bit ∷ []
bits_more v i bit e = rw add-one (suc_more v i bit e)
