-- Lemmas on the texts of bits.
use Rattle.std.proofs.Common.{◌≡◌, ℕ, zero, suc, ◌+◌, ◌<◌, List, [], ◌∷◌, ◌++◌, Bool, Some, None}
use Rattle.std.proofs.Common.{length, take, get_or, refl, ap, sym, ◌∙◌, append_assoc, arith}
use Rattle.std.specs.List.{slice_get}
use Rattle.pg_base.specs.Bits.{bit_digit, bits_text}
use Rattle.pg_base.proofs.BitTexts.{bits_more}

-- a place before the end has a bit
pub bit_there : (v : List Bool) (i : ℕ) → i < length v → slice_get v i ≡ None → ⊥
bit_there [] i l e = omega arith
bit_there (x ∷ xs) zero l e = cc
bit_there (x ∷ xs) (suc i) l e = bit_there xs i (omega arith) e

-- a step of a loop that appends the digit of the bit at a place
pub bits_step : (v : List Bool) (i : ℕ) (bit : Bool) (digit : ℕ) (old before after : List ℕ) → slice_get v i ≡ Some bit
    → digit ≡ bit_digit bit
    → before ≡ old ++ bits_text (take i v)
    → after ≡ before ++ digit ∷ []
    → after ≡ old ++ bits_text (take (i + 1) v)
bits_step v i bit digit old before after e is so_far last =
    last ∙ (λ t. so_far t ++ is t ∷ []) ∙ append_assoc old (bits_text (take i v)) (bit_digit bit ∷ [])
    ∙ ap (λ x. old ++ x) (sym (bits_more v i bit e))

-- each digit of a text of bits is that of a bit
pub digit_of_bits : (v : List Bool) (i : ℕ) → i < length (bits_text v)
    → (bit : Bool) × (get_or (bits_text v) i 0 ≡ bit_digit bit)
digit_of_bits [] i l = absurd (omega arith)
digit_of_bits (b ∷ bs) zero l = (b, refl)
digit_of_bits (b ∷ bs) (suc i) l = digit_of_bits bs i (omega arith)
