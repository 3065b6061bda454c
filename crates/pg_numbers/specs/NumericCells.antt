-- Cells of NUMERIC (numeric_send, numeric_recv): the number of digits, the weight of the first, the sign, the scale and
-- the digits, each in 2 bytes, big-endian.
use Rattle.std.specs.Prelude.{◌≡◌, ℕ, ◌*◌, suc, ◌==◌, ◌||◌, ℤ, pos, List, [], ◌∷◌, ◌++◌, length, drop, slice_index}
use Rattle.std.specs.Prelude.{Bool, true}
use Rattle.std.specs.Prelude.{false, nat_le, if◌then◌else◌, Option, Some, None, Ok, Err, codes}
use Rattle.std.specs.Int.{w16, cast_signed, from_be_bytes, to_be_bytes}
use Rattle.pg_base.specs.Appending.{Wire}
use Rattle.pg_base.specs.Cells.{Cell, be}
use Rattle.pg_base.specs.Counts.{length_check}
use Rattle.pg_base.specs.Formats.{Checks, first_fault_of, ReadsPlain}
use Rattle.pg_types.specs.Faults.{Refusal, Outcome, size, transmit, user}
use Rattle.pg_types.specs.Content.{Content}
use Rattle.pg_numbers.specs.CatalogTypes.{has_oid}
use Rattle.pg_numbers.specs.Numeric.{invalid_digit, invalid_scale, units_of}
use Rattle.pg_numbers.specs.Numeric.{Parts, parts, canonical, is_number, are_digits, max_scale}
use Rattle.pg_numbers.specs.declared.numeric.Numeric.{Numeric}
use Rattle.pg_numbers.specs.declared.numeric.Numeric.TheVariants.{NaN, Infinity, NegativeInfinity, Finite}

-- the length of the header, which is before the digits
abbrev pub head_len : ℕ
head_len = 8

-- the signs: of a number that is not negative, of a negative one, of NaN and of the infinities (NUMERIC_POS,
-- NUMERIC_NEG, NUMERIC_NAN, NUMERIC_PINF, NUMERIC_NINF)
abbrev pub positive_sign : ℕ
positive_sign = 0

abbrev pub negative_sign : ℕ
negative_sign = 0x4000

abbrev pub nan_sign : ℕ
nan_sign = 0xC000

abbrev pub infinity_sign : ℕ
infinity_sign = 0xD000

abbrev pub negative_infinity_sign : ℕ
negative_infinity_sign = 0xF000

-- the scale of the cells in which infinities are written; in reading it is ignored
abbrev pub infinity_scale : ℕ
infinity_scale = 32

-- ---- what a cell states

-- the unsigned number of two bytes
abbrev pub number_at : List ℕ → ℕ → ℕ
number_at b at = from_be_bytes w16 (slice_index b at ∷ slice_index b (suc at) ∷ [])

-- the unsigned numbers of bytes, two bytes each
abbrev pub numbers_in : List ℕ → List ℕ
numbers_in [] = []
numbers_in (_ ∷ []) = []
numbers_in (high ∷ low ∷ rest) = from_be_bytes w16 (high ∷ low ∷ []) ∷ numbers_in rest

abbrev pub count_in : List ℕ → ℕ
count_in b = number_at b 0

abbrev pub weight_in : List ℕ → ℤ
weight_in b = cast_signed w16 (number_at b 2)

abbrev pub sign_in : List ℕ → ℕ
sign_in b = number_at b 4

abbrev pub scale_in : List ℕ → ℕ
scale_in b = number_at b 6

abbrev pub digits_in : List ℕ → List ℕ
digits_in b = numbers_in (drop head_len b)

-- the parts of a cell
abbrev pub stated : List ℕ → Parts
stated b = parts (sign_in b == negative_sign) (weight_in b) (scale_in b) (digits_in b)

-- the value of a sign and parts; the parts of NaN and the infinities are ignored
abbrev pub value_of : ℕ → Parts → Numeric
value_of sign p =
    if sign == nan_sign then NaN else if sign == infinity_sign then Infinity
    else if sign == negative_infinity_sign then NegativeInfinity else Finite (canonical p)

-- whether a sign is one of the five
abbrev pub is_sign : ℕ → Bool
is_sign sign =
    sign == positive_sign || sign == negative_sign || sign == nan_sign || sign == infinity_sign
    || sign == negative_infinity_sign

-- the fault with which numeric_recv refuses a sign
abbrev pub invalid_sign : Refusal
invalid_sign = user (codes "invalid sign in external numeric value")

-- the checks of NUMERIC: fewer than 8 bytes are refused with Size; then another sign than the five, and a scale greater
-- than 16,383, with User; a length that does not fit the number of digits with Size; and a digit greater than 9,999
-- with User
abbrev pub numeric_checks : List ℕ → Checks
numeric_checks b =
    (nat_le head_len (length b), size)
    ∷ (is_sign (sign_in b), invalid_sign)
    ∷ (nat_le (scale_in b) max_scale, invalid_scale)
    ∷ length_check (2 * count_in b) (drop head_len b)
    ∷ (are_digits (digits_in b), invalid_digit)
    ∷ []

abbrev pub first_fault_numeric : List ℕ → Option Refusal
first_fault_numeric b = first_fault_of (numeric_checks b)

-- NUMERIC: the bytes pass the checks, and the value is that of their sign and parts
abbrev pub FormNumeric : List ℕ → Numeric → Type 0
FormNumeric b v = (first_fault_numeric b ≡ None) × (v ≡ value_of (sign_in b) (stated b))

-- what a cell reads as
abbrev pub ReadsNumeric : Cell → Outcome Numeric → Type 0
ReadsNumeric = ReadsPlain FormNumeric first_fault_numeric

-- ---- what a value is written as

-- the bytes of digits, two each
abbrev pub digit_bytes : List ℕ → List ℕ
digit_bytes [] = []
digit_bytes (digit ∷ digits) = to_be_bytes w16 digit ++ digit_bytes digits

-- the header
abbrev pub head_bytes : ℕ → ℤ → ℕ → ℕ → List ℕ
head_bytes count weight sign scale =
    to_be_bytes w16 count ++ (be w16 weight ++ (to_be_bytes w16 sign ++ to_be_bytes w16 scale))

-- the sign of a number
abbrev pub sign_of : Bool → ℕ
sign_of true = negative_sign
sign_of false = positive_sign

-- the bytes of a number
abbrev pub number_bytes : Parts → List ℕ
number_bytes p = head_bytes (length p.digits) p.weight (sign_of p.negative) p.scale ++ digit_bytes p.digits

-- the bytes of a value
abbrev pub numeric_bytes : Numeric → List ℕ
numeric_bytes NaN = head_bytes 0 (pos 0) nan_sign 0
numeric_bytes Infinity = head_bytes 0 (pos 0) infinity_sign infinity_scale
numeric_bytes NegativeInfinity = head_bytes 0 (pos 0) negative_infinity_sign infinity_scale
numeric_bytes (Finite p) = number_bytes p

-- whether a value is one that a `Numeric` can have
abbrev pub is_numeric : Numeric → Bool
is_numeric NaN = true
is_numeric Infinity = true
is_numeric NegativeInfinity = true
is_numeric (Finite p) = is_number p

-- the cell of a value: its bytes; or Transmit if the parts are not those of a number, which is never so for a `Numeric`
abbrev pub wire_numeric : Numeric → Wire
wire_numeric v = if is_numeric v then Ok (Some (numeric_bytes v)) else Err transmit

-- the type is NUMERIC
abbrev pub accepted_numeric : Content → Bool
accepted_numeric = has_oid 1700

-- the number of a value has the scale and the value of the parts
abbrev pub CountsAsStated : Parts → Numeric → Type 0
CountsAsStated p NaN = Unit {0}
CountsAsStated p Infinity = Unit {0}
CountsAsStated p NegativeInfinity = Unit {0}
CountsAsStated p (Finite number) = (number.scale ≡ p.scale) × (units_of number ≡ units_of p)
