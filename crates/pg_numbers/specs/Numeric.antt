-- Decimal numbers of NUMERIC (make_result, trunc_var).
use Rattle.std.specs.Prelude.{◌≡◌, ℕ, ◌+◌, ◌-◌, ◌*◌, ◌/◌, ◌^◌, ◌==◌, ◌&&◌, nat_lt, nat_le, ℤ, pos, negsuc, ◌-ℤ◌}
use Rattle.std.specs.Prelude.{List, [], ◌∷◌, length, Bool, true, false, if◌then◌else◌, not, take_while, codes, None}
use Rattle.std.specs.Prelude.{Some, Ok, Err}
use Rattle.std.specs.Bool.{beq}
use Rattle.std.specs.Cmp.Lexicographic.{pointwise}
use Rattle.std.specs.List.{list_all}
use Rattle.std.specs.Int.{Width, w16}
use Rattle.std.specs.Prelude.{FitsSigned}
use Rattle.std.specs.Prelude.{neg_ℤ}
use Rattle.std.specs.Ordering.{int_eq}
use Rattle.pg_base.specs.Formats.{Checks, first_fault_of}
use Rattle.pg_base.specs.Numbers.{fits_signed}
use Rattle.pg_types.specs.Faults.{Outcome, Refusal, transmit, user}

-- a number: its sign, the weight of its first digit, its scale, and its base-10,000 digits. A digit of the weight w is
-- multiplied by 10,000 to the power w. The scale is the number of decimal digits after the point
pub record Parts : Type 0 where
  pub negative : Bool
  pub weight : ℤ
  pub scale : ℕ
  pub digits : List ℕ

abbrev pub parts : Bool → ℤ → ℕ → List ℕ → Parts
parts negative weight scale digits =
    record { negative = negative; weight = weight; scale = scale; digits = digits }

-- the faults with which numeric_recv refuses a scale and a digit
abbrev pub invalid_scale : Refusal
invalid_scale = user (codes "invalid scale in external numeric value")

abbrev pub invalid_digit : Refusal
invalid_digit = user (codes "invalid digit in external numeric value")

-- the base of the digits (NBASE)
abbrev pub base : ℕ
base = 10000

-- the greatest scale (NUMERIC_DSCALE_MAX)
abbrev pub max_scale : ℕ
max_scale = 16383

-- the greatest number of digits that a cell can have
abbrev pub max_digits : ℕ
max_digits = 65535

-- how many of the decimal digits of a digit of that weight exceed the scale. A digit whose weight is negative has four
-- decimal digits after the point
abbrev pub hidden : ℤ → ℕ → ℕ
hidden (pos weight) scale = 0
hidden (negsuc weight) scale = 4 * (weight + 1) - scale

-- a digit with its last count decimal digits replaced by zeros
abbrev pub without_decimals : ℕ → ℕ → ℕ
without_decimals count digit = digit / 10 ^ count * 10 ^ count

-- the digits, of which the first has that weight, without the decimal digits that exceed the scale (trunc_var)
abbrev pub shown : ℤ → ℕ → List ℕ → List ℕ
shown weight scale [] = []
shown weight scale (digit ∷ digits) =
    without_decimals (hidden weight scale) digit ∷ shown (weight -ℤ pos 1) scale digits

-- a digit before others; it is left out if it is 0 and there are no others
abbrev pub before : ℕ → List ℕ → List ℕ
before digit [] = if digit == 0 then [] else digit ∷ []
before digit (next ∷ digits) = digit ∷ next ∷ digits

-- the digits without the zeros at their end
abbrev pub without_trailing : List ℕ → List ℕ
without_trailing [] = []
without_trailing (digit ∷ digits) = before digit (without_trailing digits)

-- the number 0, which is positive and has the weight 0
abbrev pub zero_of : ℕ → Parts
zero_of scale = parts false (pos 0) scale []

-- the number of these digits, of which the first is not 0; without digits it is 0
abbrev pub from_digits : Bool → ℤ → ℕ → List ℕ → Parts
from_digits negative weight scale [] = zero_of scale
from_digits negative weight scale (digit ∷ digits) = parts negative weight scale (digit ∷ digits)

-- the number of the digits without the zeros before them; each of these zeros decreases the weight by 1
abbrev pub from_first : Bool → ℤ → ℕ → List ℕ → Parts
from_first negative weight scale [] = zero_of scale
from_first negative weight scale (digit ∷ digits) =
    if digit == 0 then from_first negative (weight -ℤ pos 1) scale digits else from_digits negative weight scale
    (without_trailing (shown weight scale (digit ∷ digits)))

-- the number of the parts: without the decimal digits that exceed its scale, and without zeros before its first digit
-- and after its last one. 0 has no digits and the weight 0, and is positive
abbrev pub canonical : Parts → Parts
canonical p = from_first p.negative p.weight p.scale p.digits

-- whether each is a base-10,000 digit
abbrev pub are_digits : List ℕ → Bool
are_digits = list_all (λ digit. nat_lt digit base)

-- whether the parts are the same
abbrev pub same_parts : Parts → Parts → Bool
same_parts p q =
    beq p.negative q.negative && int_eq p.weight q.weight && p.scale == q.scale && pointwise ◌==◌ p.digits q.digits

-- whether the parts are those of a number: they are canonical, and each is in its range
abbrev pub is_number : Parts → Bool
is_number p =
    same_parts (canonical p) p && fits_signed w16 p.weight && nat_le p.scale max_scale && are_digits p.digits
    && nat_le (length p.digits) max_digits

-- whether the first digit, if there is one, is not 0
abbrev pub first_is_not_zero : List ℕ → Bool
first_is_not_zero [] = true
first_is_not_zero (digit ∷ digits) = not (digit == 0)

-- how many zeros there are before the first digit that is not 0
abbrev pub leading_zeros : List ℕ → ℕ
leading_zeros digits = length (take_while (λ digit. digit == 0) digits)

-- ---- what the digits count for

-- the value of a digit of that weight, in units of the last decimal digit of the scale, rounded down: with the weight
-- w, it is the digit multiplied by 10 to the power 4 w + scale
abbrev pub digit_units : ℤ → ℕ → ℕ → ℕ
digit_units (pos weight) scale digit = digit * 10 ^ (4 * weight + scale)
digit_units (negsuc weight) scale digit = digit * 10 ^ scale / 10 ^ (4 * (weight + 1))

-- the value of digits, of which the first has that weight, in the same units
abbrev pub units : ℤ → ℕ → List ℕ → ℕ
units weight scale [] = 0
units weight scale (digit ∷ digits) = digit_units weight scale digit + units (weight -ℤ pos 1) scale digits

-- the absolute value of a number in the same units: it is multiplied by 10 to the power of the scale
abbrev pub units_of : Parts → ℕ
units_of p = units p.weight p.scale p.digits

-- ---- numbers from parts

-- the checks of parts: a scale greater than 16,383 is refused with User, more than 65,535 digits with Transmit, and a
-- digit greater than 9,999 with User
abbrev pub parts_checks : Parts → Checks
parts_checks p =
    (nat_le p.scale max_scale, invalid_scale)
    ∷ (nat_le (length p.digits) max_digits, transmit)
    ∷ (are_digits p.digits, invalid_digit)
    ∷ []

-- the number of the parts, which has their scale and their value; or the fault of the first check that they fail
abbrev pub MakesNumber : Parts → Outcome Parts → Type 0
MakesNumber p (Ok number) =
    (first_fault_of (parts_checks p) ≡ None) × (number ≡ canonical p) × (number.scale ≡ p.scale)
    × (units_of number ≡ units_of p)
MakesNumber p (Err r) = first_fault_of (parts_checks p) ≡ Some r

-- ---- integers

-- a number of that sign and absolute value
abbrev pub signed : Bool → ℕ → ℤ
signed false n = pos n
signed true n = neg_ℤ (pos n)

-- the value of a number, in units of 10 to the power minus its scale and so many more
abbrev pub signed_units : Parts → ℕ → ℤ
signed_units p more = signed p.negative (units_of p * 10 ^ more)

-- the value of the number is the integer
pub record IsInteger (p : Parts) (n : ℤ) : Type 0 where
  -- its absolute value
  pub magnitude : ℕ
  pub is : n ≡ signed p.negative magnitude
  -- in units of the last decimal digit
  pub counts : units_of p ≡ magnitude * 10 ^ p.scale

-- no integer of that width is the value of the number
abbrev pub HasNoInteger : Width → Parts → Type 0
HasNoInteger w p = (n : ℤ) → IsInteger p n → FitsSigned w n → ⊥
