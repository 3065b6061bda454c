-- The texts of NUMERIC.
use Rattle.std.specs.Prelude.{ℕ, List, Ok}
use Rattle.pg_numbers.specs.NumericTexts.{ParsesNumeric}
use Rattle.pg_numbers.specs.declared.numeric.Numeric.{Numeric}

-- the text is read as the value (numeric_in)
abbrev pub SaysNumeric : List ℕ → Numeric → Type 0
SaysNumeric text value = ParsesNumeric text (Ok value)
