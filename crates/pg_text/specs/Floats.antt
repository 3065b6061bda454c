-- The texts of FLOAT4 and FLOAT8, whose values are their bits.
use Rattle.std.specs.Prelude.{◌≡◌, ℕ, List, ◌++◌, Float, Option, Some, IfSome, from_bits, option_map, to_bits}
use Rattle.std.specs.Float.{Format}
use Rattle.std.specs.Option.{option_or}
use Rattle.pg_text.specs.Spaces.{trimmed}
use Rattle.pg_numbers.specs.FloatTexts.{float_of, word_of}

-- a text that is read as the number of the bits stands after what was there: the word of zero, NaN and the infinities
-- (float4out, float8out)
abbrev pub ShowsFloat : Format → ℕ → List ℕ → List ℕ → Type 0
ShowsFloat f bits old new =
    (text : List ℕ) × (float_of f text ≡ Some (from_bits f bits))
    × IfSome (word_of (from_bits f bits)) (λ word. text ≡ word) × (new ≡ old ++ text)

-- the number that a text is read as, which may stand in white space
abbrev pub number_of : Format → List ℕ → Option Float
number_of f text = option_or (float_of f text) (float_of f (trimmed text))

-- the bits are those of the number that the text is read as (float4in, float8in)
abbrev pub SaysFloat : Format → List ℕ → ℕ → Type 0
SaysFloat f text bits = option_map (to_bits f) (number_of f text) ≡ Some bits
