-- Lemmas on the bytes of a cell: the numbers that they spell.
use Rattle.std.specs.Prelude.{◌≡◌, ◌≢◌, ◌==◌, ℕ, ◌-◌, ◌*◌, ◌<◌, ◌≤◌, List, [], ◌∷◌, length, drop, refl, true, false}
use Rattle.std.specs.Prelude.{Some}
use Rattle.std.proofs.Common.{◌∙◌, arith, get_or, take}
use Rattle.std.proofs.lemmas.Bool.Decides.{nat_tests}
use Rattle.std.proofs.lemmas.List.{length-drop, take_all}
use Rattle.std.specs.Int.{w16, from_be_bytes}
use Rattle.pg_numbers.specs.Laws.Numeric.{checks_of}
use Rattle.pg_numbers.specs.Numeric.{invalid_digit}
use Rattle.pg_numbers.specs.Numeric.{Parts, are_digits, canonical, max_scale}
use Rattle.pg_numbers.specs.declared.numeric.Numeric.TheVariants.{Finite}
use Rattle.pg_numbers.specs.NumericCells.{count_in, digits_in, first_fault_numeric, head_len, is_sign}
use Rattle.pg_numbers.specs.NumericCells.{infinity_sign, nan_sign, negative_infinity_sign, numbers_in, scale_in}
use Rattle.pg_numbers.specs.NumericCells.{sign_in, value_of}

-- the first two bytes spell the first number
pub numbers_more : (b : List ℕ) → 2 ≤ length b
    → numbers_in b ≡ from_be_bytes w16 (get_or b 0 0 ∷ get_or b 1 0 ∷ []) ∷ numbers_in (drop 2 b)
numbers_more [] h = absurd (omega (arith, h))
numbers_more (x ∷ []) h = absurd (omega (arith, h))
numbers_more (x ∷ y ∷ b) h = refl

pub numbers_end : (b : List ℕ) → length b < 2 → numbers_in b ≡ []
numbers_end [] h = refl
numbers_end (x ∷ []) h = refl
numbers_end (x ∷ y ∷ b) h = absurd (omega (arith, h))

-- bytes of which a digit is too great
pub fails_digits : (b : List ℕ) → head_len ≤ length b → is_sign (sign_in b) ≡ true → scale_in b ≤ max_scale
    → length (drop head_len b) ≡ 2 * count_in b → are_digits (digits_in b) ≡ false
    → first_fault_numeric b ≡ Some invalid_digit
fails_digits b long sign scale whole digits = checks_of b long sign scale whole ∙ rw digits refl

-- what comes after the head is all that comes after it
pub after_head : (b : List ℕ) → take (length b - 8) (drop 8 b) ≡ drop 8 b
after_head b = take_all (length b - 8) (drop 8 b) (omega (arith, length-drop {A = ℕ}))

-- there are at most half as many numbers as bytes
pub numbers_length : (b : List ℕ) → 2 * length (numbers_in b) ≤ length b
numbers_length [] = omega arith
numbers_length (x ∷ []) = omega arith
numbers_length (x ∷ y ∷ b) = omega (arith, numbers_length b)

-- the value of a sign that is neither NaN's nor an infinity's
pub value_of_number : (sign : ℕ) (p : Parts) → sign ≢ nan_sign → sign ≢ infinity_sign → sign ≢ negative_infinity_sign
    → Finite (canonical p) ≡ value_of sign p
value_of_number sign p a b c =
    let e : (sign == nan_sign) ≡ false = grind (arith, nat_tests, a) in
    let f : (sign == infinity_sign) ≡ false = grind (arith, nat_tests, b) in
    let g : (sign == negative_infinity_sign) ≡ false = grind (arith, nat_tests, c) in
    rw (e, f, g) refl
