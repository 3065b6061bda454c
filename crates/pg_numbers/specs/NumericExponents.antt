-- Exponents in texts of NUMERIC (set_var_from_str).
use Rattle.std.specs.Prelude.{ℕ, ◌+◌, ◌-◌, ◌==◌, ◌&&◌, ◌||◌, nat_lt, List, ◌++◌, drop, length, replicate, take}
use Rattle.std.specs.Prelude.{Bool, not, Option, None, Some, if◌then◌else◌}
use Rattle.std.specs.Char.{is_ascii_digit}
use Rattle.std.specs.List.{list_all, prefix_len}
use Rattle.std.specs.Str.Parse.{digits_value, starts_with_minus, without_leading_sign}

-- how many bytes stand before the exponent, which the letter e or E begins, if there is one
abbrev pub exponent_at : List ℕ → ℕ
exponent_at text = prefix_len (λ byte. not (byte == 101 || byte == 69)) text

-- what stands before the exponent, and the exponent with its letter
abbrev pub mantissa_of : List ℕ → List ℕ
mantissa_of text = take (exponent_at text) text

abbrev pub exponent_of : List ℕ → List ℕ
exponent_of text = drop (exponent_at text) text

-- whether the exponent is negative, and the digits of its absolute value
abbrev pub is_below : List ℕ → Bool
is_below exponent = starts_with_minus (drop 1 exponent)

abbrev pub power_digits : List ℕ → List ℕ
power_digits exponent = without_leading_sign (drop 1 exponent)

-- whether there is no exponent, or one of decimal digits, one at least, after its letter and a sign, which may be absent
abbrev pub is_exponent : List ℕ → Bool
is_exponent exponent =
    length exponent == 0
    || not (length (power_digits exponent) == 0) && list_all is_ascii_digit (power_digits exponent)

-- the absolute value of an exponent, where it is less than 1,073,741,823 (INT_MAX / 2)
abbrev pub power_limit : ℕ
power_limit = 1073741823

abbrev pub power_value : List ℕ → Option ℕ
power_value digits = if nat_lt (digits_value 10 digits) power_limit then Some (digits_value 10 digits) else None

-- how many of the digits are decimals after the exponent has moved the point
abbrev pub moved_scale : Bool → ℕ → ℕ → ℕ
moved_scale below power decimals = if below then decimals + power else decimals - power

-- how many zeros it has put between the digits and the point
abbrev pub moved_zeros : Bool → ℕ → ℕ → ℕ
moved_zeros below power decimals = if below then 0 else power - decimals

-- the zeros after so many digits, of which the first is not 0: none after no digits, which are the number 0
abbrev pub zeros_after : ℕ → ℕ → ℕ
zeros_after count zeros = if count == 0 then 0 else zeros

-- the digits, of which the first is not 0, with the zeros after them and, where they are fewer than the scale says,
-- before them
abbrev pub moved_digits : List ℕ → ℕ → ℕ → List ℕ
moved_digits digits zeros scale =
    replicate (scale - (length digits + zeros)) 48 ++ (digits ++ replicate zeros 48)
