-- Words that are read as a value that is no finite number, and texts of numbers that are in range.
use Rattle.std.specs.Prelude.{◌≡◌, ◌++◌, ◌*◌, ◌<◌, ◌^◌, ℕ, suc, Some, None, Bool, true, false, codes, pos, negsuc, refl, from_bits}
use Rattle.std.specs.Float.Ieee.{eq, fits, is_nan, up, down}
use Rattle.std.specs.Float.{Float, Format, binary32, binary64, nan, inf, fin, float_is_finite, float_is_infinite, float_zero, is_sign_negative}
use Rattle.std.specs.Float.Numeral.{has_digits, scan_numeral}
use Rattle.std.specs.Fmt.{sign_text}
use Rattle.std.specs.Float.Parse.{parse_float, without_sign}
use Rattle.std.specs.Prelude.{T, List, ℤ}
use Rattle.std.proofs.Common.{arith, sym, ◌∙◌}
use mathlib.Core.Bool.{true≢false}
use Rattle.std.proofs.lemmas.Bool.{and_parts, eqb-true, and_right}
use native.Mathlib.Nat.{mul-pos, pow-suc, zero-lt-suc, zero-mul}
use lib.Ieee.Bits.{is_true}
use Rattle.std.proofs.lemmas.Float.Parse.{parse_float_on_literals}
use lib.Ieee.Bits.{of_bits-fits}
use lib.Ieee.Fits.{up_pos}
use Rattle.pg_numbers.specs.FloatTexts.{float_of, word_of}

-- a word is read as its value
pub reads_nan : (f : Format) → float_of f (codes "NaN") ≡ Some nan
unfolding parse_float_on_literals float_is_infinite eq
reads_nan f = refl

pub reads_infinity : (f : Format) (s : Bool) → float_of f (sign_text s ++ codes "Infinity") ≡ Some (inf s)
unfolding parse_float_on_literals float_is_infinite eq
reads_infinity f true = refl
reads_infinity f false = refl

pub reads_zero : (f : Format) (s : Bool) → float_of f (sign_text s ++ codes "0") ≡ Some (fin s 0 (pos 0))
unfolding parse_float_on_literals float_is_infinite eq
reads_zero binary32 true = refl
reads_zero binary32 false = refl
reads_zero binary64 true = refl
reads_zero binary64 false = refl

-- the value of each test's answers
pub nan_is : (x : Float) → is_nan x ≡ true → nan ≡ x
unfolding is_nan
nan_is nan h = refl
nan_is (inf s) h = cc
nan_is (fin s m e) h = cc

pub infinite_is : (x : Float) → float_is_infinite x ≡ true → inf (is_sign_negative x) ≡ x
unfolding float_is_infinite is_sign_negative
infinite_is nan h = cc
infinite_is (inf s) h = refl
infinite_is (fin s m e) h = cc

pub finite_is : (x : Float) → is_nan x ≡ false → float_is_infinite x ≡ false → float_is_finite x ≡ true
unfolding is_nan float_is_finite float_is_infinite
finite_is nan h k = cc
finite_is (inf s) h k = cc
finite_is (fin s m e) h k = refl

-- a zero that fits has the exponent 0
zero_fits : (f : Format) (s : Bool) (e : ℤ) → T (fits f (fin s 0 e)) → fin s 0 (pos 0) ≡ fin s 0 e
unfolding fits
zero_fits f s (pos ℕ.zero) h = refl
zero_fits f s (pos (suc k)) h =
    absurd (omega (arith, pow-suc 2 k, eqb-true (2 ^ suc k * 1) 1 (is_true _ h)))
zero_fits f s (negsuc k) h =
    absurd (omega (arith, pow-suc 2 k, eqb-true (1 * 2 ^ suc k) 1 (is_true _ h)))

-- zeros are equal
zeros_equal : (s : Bool) (e : ℤ) → eq (fin s 0 e) float_zero ≡ true
unfolding eq
zeros_equal true e = rw (zero-mul (up e)) (rw (zero-mul (down e)) refl)
zeros_equal false e = rw (zero-mul (up e)) (rw (zero-mul (down e)) refl)

zero_value : (f : Format) (x : Float) → T (fits f x) → eq x float_zero ≡ true → fin (is_sign_negative x) 0 (pos 0) ≡ x
unfolding eq is_sign_negative
zero_value f nan h e = cc
zero_value f (inf s) h e = cc
zero_value f (fin s ℕ.zero e) h k = zero_fits f s e h
zero_value f (fin s (suc m) e) h k =
    let product : 0 < suc m * up e = mul-pos (zero-lt-suc m) (up_pos e) in
    let same : suc m * up e * 1 ≡ 0 * 1 * down e = eqb-true _ _ (and_parts _ _ k).0 in
    absurd (omega (arith, product, same, zero-mul (down e)))

-- a value that compares equal to zero is one of the two zeros
pub zero_is : (f : Format) (bits : ℕ) → eq (from_bits f bits) float_zero ≡ true
    → fin (is_sign_negative (from_bits f bits)) 0 (pos 0) ≡ from_bits f bits
zero_is f bits = zero_value f (from_bits f bits) (of_bits-fits f bits)

-- what is neither an infinity nor zero is in range
pub in_range : (f : Format) (x : Float) (text : List ℕ) → parse_float f text ≡ Some x
    → float_is_infinite x ≡ false → eq x float_zero ≡ false → float_of f text ≡ Some x
in_range f x text h k l = rw h (rw k (rw l (rw (and_right (has_digits (scan_numeral (without_sign text))) false refl) refl)))

-- and no word
pub no_word : (x : Float) → float_is_finite x ≡ true → eq x float_zero ≡ false → word_of x ≡ None
unfolding float_is_finite
no_word nan h k = cc
no_word (inf s) h k = cc
no_word (fin s ℕ.zero e) h k = absurd (true≢false (sym (zeros_equal s e) ∙ k))
no_word (fin s (suc m) e) h k = refl

-- what the texts of a value are proved by
pub ruleset float_texts = (reads_nan, reads_infinity, reads_zero, nan_is, infinite_is, finite_is, zero_is, in_range, no_word)
