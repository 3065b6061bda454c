-- Lemmas on what digits count for: a number counts for as much as the parts that it is made of.
use Rattle.std.specs.Prelude.{◌≡◌, ℕ, ◌+◌, ◌-◌, ◌*◌, ◌/◌, ◌^◌, ◌<◌, ℤ, pos, negsuc, ◌-ℤ◌, List, [], ◌∷◌}
use Rattle.std.specs.Prelude.{Bool, refl}
use Rattle.std.proofs.Common.{sym, ◌∙◌, ap, arith, inl, inr}
use Rattle.std.proofs.Math.Nat.{div-div-eq-div-mul, div-eq_of_lt, mul-div_cancel, one-le-pow}
use Rattle.std.proofs.lemmas.Nat.{pow-add}
use Rattle.std.proofs.lemmas.Bool.Decides.{eqb_tells, leb_tells}
use Rattle.pg_numbers.specs.Numeric.{Parts, before, canonical, digit_units, from_digits, from_first, hidden, shown}
use Rattle.pg_numbers.specs.Numeric.{units}
use Rattle.pg_numbers.specs.Numeric.{units_of, without_decimals, without_trailing}

-- the digit 0 counts for nothing
zero_units : (weight : ℤ) (scale : ℕ) → digit_units weight scale 0 ≡ 0
zero_units (pos weight) scale = omega arith
zero_units (negsuc weight) scale =
    let none : 0 * 10 ^ scale ≡ 0 = omega arith in
    rw none (div-eq_of_lt {n = 0} {m = 10 ^ (4 * (weight + 1))} (one-le-pow (4 * (weight + 1)) 10 (omega arith)))

pub shown_of : (x scale count power : ℕ) → power ≡ 10 ^ scale * 10 ^ count → x * 10 ^ scale / power ≡ x / 10 ^ count
shown_of x scale count power e =
    let some : 0 < 10 ^ scale = one-le-pow scale 10 (omega arith) in
    ap (λ p. x * 10 ^ scale / p) e ∙ sym (div-div-eq-div-mul (x * 10 ^ scale) (10 ^ scale) (10 ^ count))
    ∙ ap (λ n. n / 10 ^ count) (mul-div_cancel x some)

-- the decimals that the scale does not show count for nothing
shown_units_digit : (weight : ℤ) (scale digit : ℕ)
    → digit_units weight scale (without_decimals (hidden weight scale) digit) ≡ digit_units weight scale digit
shown_units_digit (pos weight) scale digit = ap (λ n. n * 10 ^ (4 * weight + scale)) (omega arith)
shown_units_digit (negsuc weight) scale digit = elim (leb_tells (4 * (weight + 1)) scale) [
  | inl all ↦
      let none : 4 * (weight + 1) - scale ≡ 0 = omega (arith, all.1) in
      ap (λ n. n * 10 ^ scale / 10 ^ (4 * (weight + 1))) (rw none (omega arith))
  | inr some ↦
      let count = 4 * (weight + 1) - scale in
      let sum : 4 * (weight + 1) ≡ scale + count = omega (arith, some.1) in
      let kept : 0 < 10 ^ count = one-le-pow count 10 (omega arith) in
      let power : 10 ^ (4 * (weight + 1)) ≡ 10 ^ scale * 10 ^ count = ap (λ n. 10 ^ n) sum ∙ pow-add 10 scale count in
      shown_of (digit / 10 ^ count * 10 ^ count) scale count (10 ^ (4 * (weight + 1))) power
      ∙ mul-div_cancel (digit / 10 ^ count) kept ∙ sym (shown_of digit scale count (10 ^ (4 * (weight + 1))) power)
]

pub shown_units : (weight : ℤ) (scale : ℕ) (digits : List ℕ)
    → units weight scale (shown weight scale digits) ≡ units weight scale digits
shown_units weight scale [] = refl
shown_units weight scale (d ∷ ds) =
    ap (λ n. n + units (weight -ℤ pos 1) scale (shown (weight -ℤ pos 1) scale ds)) (shown_units_digit weight scale d)
    ∙ ap (λ n. digit_units weight scale d + n) (shown_units (weight -ℤ pos 1) scale ds)

-- nor do zeros at the end
before_units : (weight : ℤ) (scale x : ℕ) (ds : List ℕ)
    → units weight scale (before x ds) ≡ digit_units weight scale x + units (weight -ℤ pos 1) scale ds
before_units weight scale x [] = elim (eqb_tells x 0) [
  | inl none ↦ rw (none.1) (sym (zero_units weight scale) ∙ omega arith)
  | inr other ↦ rw other.0 refl
]
before_units weight scale x (d ∷ ds) = refl

pub trailing_units : (weight : ℤ) (scale : ℕ) (digits : List ℕ)
    → units weight scale (without_trailing digits) ≡ units weight scale digits
trailing_units weight scale [] = refl
trailing_units weight scale (d ∷ ds) =
    before_units weight scale d (without_trailing ds)
    ∙ ap (λ n. digit_units weight scale d + n) (trailing_units (weight -ℤ pos 1) scale ds)

from_digits_units : (negative : Bool) (weight : ℤ) (scale : ℕ) (digits : List ℕ)
    → units_of (from_digits negative weight scale digits) ≡ units weight scale digits
from_digits_units negative weight scale [] = refl
from_digits_units negative weight scale (d ∷ ds) = refl

-- nor those at the front
from_first_units : (negative : Bool) (weight : ℤ) (scale : ℕ) (digits : List ℕ)
    → units_of (from_first negative weight scale digits) ≡ units weight scale digits
from_first_units negative weight scale [] = refl
from_first_units negative weight scale (d ∷ ds) = elim (eqb_tells d 0) [
  | inl none ↦
      let step : from_first negative weight scale (d ∷ ds) ≡ from_first negative (weight -ℤ pos 1) scale ds =
      rw none.0 refl in
      let nothing : digit_units weight scale d ≡ 0 = ap (digit_units weight scale) none.1 ∙ zero_units weight scale in
      ap units_of step ∙ from_first_units negative (weight -ℤ pos 1) scale ds ∙ omega (arith, nothing)
  | inr other ↦
      let left = without_trailing (shown weight scale (d ∷ ds)) in
      let step : from_first negative weight scale (d ∷ ds) ≡ from_digits negative weight scale left = rw other.0 refl in
      ap units_of step ∙ from_digits_units negative weight scale left
      ∙ trailing_units weight scale (shown weight scale (d ∷ ds)) ∙ shown_units weight scale (d ∷ ds)
]

-- a number counts for as much as the parts that stand for it
pub canonical_units : (p : Parts) → units_of (canonical p) ≡ units_of p
canonical_units p = from_first_units p.negative p.weight p.scale p.digits

-- and has their scale
from_digits_scale : (negative : Bool) (weight : ℤ) (scale : ℕ) (digits : List ℕ)
    → (from_digits negative weight scale digits).scale ≡ scale
from_digits_scale negative weight scale [] = refl
from_digits_scale negative weight scale (d ∷ ds) = refl

from_first_scale : (negative : Bool) (weight : ℤ) (scale : ℕ) (digits : List ℕ)
    → (from_first negative weight scale digits).scale ≡ scale
from_first_scale negative weight scale [] = refl
from_first_scale negative weight scale (d ∷ ds) = elim (eqb_tells d 0) [
  | inl none ↦ rw none.0 (from_first_scale negative (weight -ℤ pos 1) scale ds)
  | inr other ↦ rw other.0 (from_digits_scale negative weight scale (without_trailing (shown weight scale (d ∷ ds))))
]

pub canonical_scale : (p : Parts) → (canonical p).scale ≡ p.scale
canonical_scale p = from_first_scale p.negative p.weight p.scale p.digits
