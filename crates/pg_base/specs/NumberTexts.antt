-- What the texts of integers are parsed as.
use Rattle.std.specs.Prelude.{◌≡◌, ℕ, ℤ, List}
use Rattle.std.specs.Str.Parse.{IsNumeral, digits_value, signed_digits_value, without_leading_plus}
use Rattle.std.specs.Str.Parse.{without_leading_sign}

-- the value of the decimal digits, after a sign, if any (pg_strtoint16, pg_strtoint32, pg_strtoint64)
abbrev pub SaysSigned : List ℕ → ℤ → Type 0
SaysSigned text value = IsNumeral 10 (without_leading_sign text) × (value ≡ signed_digits_value 10 text)

-- the value of the decimal digits, after a plus sign, if any
abbrev pub SaysUnsigned : List ℕ → ℕ → Type 0
SaysUnsigned text value =
    IsNumeral 10 (without_leading_plus text) × (value ≡ digits_value 10 (without_leading_plus text))
