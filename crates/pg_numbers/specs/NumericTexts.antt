-- Texts of NUMERIC (numeric_out, numeric_in).
use Rattle.std.specs.Prelude.{◌≡◌, ℕ, zero, suc, ◌+◌, ◌-◌, ◌*◌, ◌/◌, ◌%◌, ◌^◌, ◌==◌, ℤ, pos, negsuc, ◌-ℤ◌}
use Rattle.std.specs.Prelude.{List, [], ◌∷◌, ◌++◌, codes, drop, length, not, slice_index, take, if◌then◌else◌}
use Rattle.std.specs.Fmt.{decimal, sign_text}
use Rattle.std.specs.List.{list_all, prefix_len, suffix_len}
use Rattle.std.specs.Char.{is_ascii_digit}
use Rattle.std.specs.Prelude.{Bool, true, false, ◌&&◌, ◌||◌, nat_le, nat_lt, MatchOption, Option, None, Some, Ok, Err}
use Rattle.std.specs.Float.Parse.{is_infinity_text, is_nan_text}
use Rattle.std.specs.Str.Parse.{digits_value, starts_with_minus, without_leading_sign}
use Rattle.pg_calendar.specs.Texts.{padded_text}
use Rattle.pg_base.specs.Formats.{Checks, first_fault_of}
use Rattle.pg_types.specs.Faults.{Outcome, Refusal, user}
use Rattle.pg_numbers.specs.Numeric.{Parts, is_number, max_scale, units_of}
use Rattle.pg_numbers.specs.NumericExponents.{exponent_of, is_below, is_exponent, mantissa_of, moved_scale, moved_zeros}
use Rattle.pg_numbers.specs.NumericExponents.{power_digits, power_limit, zeros_after}
use Rattle.pg_numbers.specs.declared.numeric.Numeric.{Numeric}
use Rattle.pg_numbers.specs.declared.numeric.Numeric.TheVariants.{NaN, Infinity, NegativeInfinity, Finite}

-- ---- writing

-- the digit so many places after the first, and 0 where there is none
abbrev pub digit_at : List ℕ → ℤ → ℕ
digit_at digits (pos place) = slice_index digits place
digit_at digits (negsuc place) = 0

-- the digit of that weight
abbrev pub digit_of : Parts → ℤ → ℕ
digit_of p weight = digit_at p.digits (p.weight -ℤ weight)

-- so many digits from that weight down, in four decimals each
abbrev pub digits_text : Parts → ℤ → ℕ → List ℕ
digits_text p weight zero = []
digits_text p weight (suc count) = digits_text p weight count ++ padded_text 4 (digit_of p (weight -ℤ pos count))

-- the first decimals of a digit, so many of the four
abbrev pub first_decimals : ℕ → ℕ → List ℕ
first_decimals zero digit = []
first_decimals (suc count) digit = padded_text (suc count) (digit / 10 ^ (4 - suc count))

-- the weight of the first digit that stands before the point: 0 where the number is less than 1
abbrev pub first_weight : ℤ → ℕ
first_weight (pos weight) = weight
first_weight (negsuc weight) = 0

-- the digits before the point, without zeros at the front
abbrev pub integer_text : Parts → List ℕ
integer_text p =
    decimal (digit_of p (pos (first_weight p.weight)))
    ++ digits_text p (pos (first_weight p.weight) -ℤ pos 1) (first_weight p.weight)

-- the decimals, of which the scale says how many there are
abbrev pub decimals_text : Parts → List ℕ
decimals_text p =
    digits_text p (negsuc 0) (p.scale / 4) ++ first_decimals (p.scale % 4) (digit_of p (negsuc (p.scale / 4)))

-- a number (numeric_out): the sign, where it is negative, the digits before the point, and, where the scale is not 0, a
-- point and the decimals
abbrev pub number_text : Parts → List ℕ
number_text p =
    sign_text p.negative ++ (integer_text p ++ (if p.scale == 0 then [] else 46 ∷ decimals_text p))

-- a value (numeric_out)
abbrev pub numeric_text : Numeric → List ℕ
numeric_text NaN = codes "NaN"
numeric_text Infinity = codes "Infinity"
numeric_text NegativeInfinity = codes "-Infinity"
numeric_text (Finite p) = number_text p

-- ---- reading

-- how many bytes stand before the first point, if there is one
abbrev pub point_of : List ℕ → ℕ
point_of text = prefix_len (λ byte. not (byte == 46)) text

-- what stands before the point, and after it
abbrev pub integer_of : List ℕ → List ℕ
integer_of text = take (point_of text) text

abbrev pub decimals_of : List ℕ → List ℕ
decimals_of text = drop 1 (drop (point_of text) text)

-- how many zeros stand at the front of digits
abbrev pub decimal_zeros : List ℕ → ℕ
decimal_zeros digits = prefix_len (λ byte. byte == 48) digits

abbrev pub without_leading_zeros : List ℕ → List ℕ
without_leading_zeros digits = drop (decimal_zeros digits) digits

-- decimal digits as ones to the base 10,000, each of four, where zeros fill the last
abbrev pub grouped : List ℕ → List ℕ
grouped [] = []
grouped (a ∷ []) = digits_value 10 (a ∷ 48 ∷ 48 ∷ 48 ∷ []) ∷ []
grouped (a ∷ b ∷ []) = digits_value 10 (a ∷ b ∷ 48 ∷ 48 ∷ []) ∷ []
grouped (a ∷ b ∷ c ∷ []) = digits_value 10 (a ∷ b ∷ c ∷ 48 ∷ []) ∷ []
grouped (a ∷ b ∷ c ∷ d ∷ text) = digits_value 10 (a ∷ b ∷ c ∷ d ∷ []) ∷ grouped text

-- the first decimal digits, fewer than four
abbrev pub front_group : List ℕ → List ℕ
front_group [] = []
front_group (a ∷ text) = digits_value 10 (a ∷ text) ∷ []

-- the digits to the base 10,000 of the decimal ones before a point and after it
abbrev pub base_digits : List ℕ → List ℕ → List ℕ
base_digits integer decimals =
    front_group (take (length integer % 4) integer)
    ++ (grouped (drop (length integer % 4) integer) ++ grouped decimals)

-- ---- what is read

-- the faults of other texts, and of numbers that are too long
abbrev pub invalid_text : Refusal
invalid_text = user (codes "invalid numeric text")

abbrev pub too_long : Refusal
too_long = user (codes "value overflows numeric format")

-- the most digits before the point, without zeros at the front
abbrev pub max_integer : ℕ
max_integer = 131072

-- whether these are decimal digits, one at least
abbrev pub is_numeral : List ℕ → List ℕ → Bool
is_numeral integer decimals =
    not (length integer == 0 && length decimals == 0) && list_all is_ascii_digit integer
    && list_all is_ascii_digit decimals

-- whether these digits and the zeros after them are not too many before the point, nor after it
abbrev pub fits_places : ℕ → ℕ → ℕ → Bool
fits_places count zeros scale = nat_le (count + zeros - scale) max_integer && nat_le scale max_scale

-- the digits of the number, where the decimals follow the others
abbrev pub digits_of : List ℕ → List ℕ
digits_of text = integer_of (mantissa_of text) ++ decimals_of (mantissa_of text)

-- its exponent's absolute value, its scale, and the zeros after its digits
abbrev pub power_of : List ℕ → ℕ
power_of text = digits_value 10 (power_digits (exponent_of text))

abbrev pub scale_of : List ℕ → ℕ
scale_of text = moved_scale (is_below (exponent_of text)) (power_of text) (length (decimals_of (mantissa_of text)))

abbrev pub zeros_of : List ℕ → ℕ
zeros_of text = moved_zeros (is_below (exponent_of text)) (power_of text) (length (decimals_of (mantissa_of text)))

-- whether digits with such an exponent are a number that is not too long
abbrev pub fits_moved : List ℕ → Bool → ℕ → ℕ → Bool
fits_moved digits below power decimals =
    let count = length (without_leading_zeros digits) in
    fits_places count (zeros_after count (moved_zeros below power decimals)) (moved_scale below power decimals)

abbrev pub fits_numeral : List ℕ → Bool
fits_numeral text =
    nat_lt (power_of text) power_limit
    && fits_moved (digits_of text) (is_below (exponent_of text)) (power_of text) (length (decimals_of (mantissa_of text)))

-- the checks of a text without its sign: digits with a point or without, and after them an exponent or none, are a
-- number, and others are User; so are an exponent that is too great, more than 131,072 digits before the point that the
-- exponent has moved, where zeros at the front do not count, and more than 16,383 after it
abbrev pub numeral_checks : List ℕ → Checks
numeral_checks text = (
  is_numeral (integer_of (mantissa_of text)) (decimals_of (mantissa_of text)) && is_exponent (exponent_of text),
  invalid_text,
)
    ∷ (fits_numeral text, too_long)
    ∷ []

-- the number of that sign and scale that is so many units of its last decimal
pub record IsScaled (negative : Bool) (total places : ℕ) (p : Parts) : Type 0 where
  pub number : is_number p ≡ true
  pub scale : p.scale ≡ places
  pub units : units_of p ≡ total
  -- 0 has no sign
  pub sign : p.negative ≡ (negative && nat_lt 0 (units_of p))

-- the number of a text: it has as many decimals as its exponent leaves, and is as many units of the last of them as the
-- digits, and the zeros after them, spell
abbrev pub IsSpelled : Bool → List ℕ → Parts → Type 0
IsSpelled negative text = IsScaled negative (digits_value 10 (digits_of text) * 10 ^ zeros_of text) (scale_of text)

-- the number of digits, so many of them decimals, of which such an exponent moves the point, or the fault of one that is
-- too long
abbrev pub ReadsMoved : Bool → List ℕ → Bool → ℕ → ℕ → Outcome Parts → Type 0
ReadsMoved negative digits below power decimals (Ok p) =
    (fits_moved digits below power decimals ≡ true)
    × IsScaled negative (digits_value 10 digits * 10 ^ moved_zeros below power decimals)
    (moved_scale below power decimals) p
ReadsMoved negative digits below power decimals (Err r) =
    (fits_moved digits below power decimals ≡ false) × (r ≡ too_long)

-- the number that a text spells after that sign, or the fault of the first check that it fails
abbrev pub ReadsNumeral : Bool → List ℕ → Outcome Parts → Type 0
ReadsNumeral negative text (Ok p) = (first_fault_of (numeral_checks text) ≡ None) × IsSpelled negative text p
ReadsNumeral negative text (Err r) = first_fault_of (numeral_checks text) ≡ Some r

-- a text of a number (numeric_in)
abbrev pub ParsesNumber : List ℕ → Outcome Parts → Type 0
ParsesNumber text = ReadsNumeral (starts_with_minus text) (without_leading_sign text)

-- ---- values that are read

-- white space (isspace)
abbrev pub is_space : ℕ → Bool
is_space byte = byte == 32 || nat_le 9 byte && nat_le byte 13

abbrev pub trimmed_start : List ℕ → List ℕ
trimmed_start text = drop (prefix_len is_space text) text

abbrev pub trimmed_end : List ℕ → List ℕ
trimmed_end text = take (length text - suffix_len is_space text) text

-- the text without the white space at its start and at its end
abbrev pub trimmed : List ℕ → List ℕ
trimmed text = trimmed_end (trimmed_start text)

abbrev pub infinity_of : Bool → Numeric
infinity_of negative = if negative then NegativeInfinity else Infinity

-- the value of a word, in any case: NaN, which has no sign, and Infinity or inf, with a sign or without
abbrev pub word_value : List ℕ → Option Numeric
word_value text =
    if is_nan_text text then Some NaN
    else if is_infinity_text (without_leading_sign text) then Some (infinity_of (starts_with_minus text)) else None

-- the text of a number, as a value
abbrev pub ParsesFinite : List ℕ → Outcome Numeric → Type 0
ParsesFinite text (Ok v) = (p : Parts) × (v ≡ Finite p) × ParsesNumber text (Ok p)
ParsesFinite text (Err r) = ParsesNumber text (Err r)

-- a text of a value (numeric_in): a word or a number, which may stand in white space
abbrev pub ParsesNumeric : List ℕ → Outcome Numeric → Type 0
ParsesNumeric text outcome =
    MatchOption (word_value (trimmed text)) (ParsesFinite (trimmed text) outcome) (λ v. outcome ≡ Ok v)
