-- Texts of FLOAT4 and FLOAT8 (float4out, float8out).
use Rattle.std.specs.Prelude.{ℕ, ◌==◌, Bool, not, ◌&&◌, ◌||◌, if◌then◌else◌, List, ◌++◌, Option, Some, None, codes, suc}
use Rattle.std.specs.Float.{Float, Format, nan, inf, fin, float_is_infinite, float_zero}
use Rattle.std.specs.Float.Ieee.{eq}
use Rattle.std.specs.Float.Numeral.{Parts, has_digits, scan_numeral}
use Rattle.std.specs.Float.Parse.{parse_float, without_sign}
use Rattle.std.specs.List.{list_any}
use Rattle.std.specs.Option.{option_and_then}
use Rattle.std.specs.Fmt.{sign_text}

-- the text of a value that is NaN, an infinity or zero
abbrev pub word_of : Float → Option (List ℕ)
word_of nan = Some (codes "NaN")
word_of (inf negative) = Some (sign_text negative ++ codes "Infinity")
word_of (fin negative ℕ.zero _) = Some (sign_text negative ++ codes "0")
word_of (fin _ (suc _) _) = None

-- ---- reading (float4in, float8in)

-- the digit is not 0
abbrev pub is_nonzero : ℕ → Bool
is_nonzero digit = not (digit == 48)

-- the numeral, before its exponent, has a digit that is not 0
abbrev pub has_nonzero : Parts → Bool
has_nonzero p = list_any is_nonzero p.whole || list_any is_nonzero p.fraction

-- a numeral is out of range if it is read as an infinity, or as zero though it is not zero
abbrev pub is_out_of_range : Parts → Float → Bool
is_out_of_range p x = has_digits p && (float_is_infinite x || (eq x float_zero && has_nonzero p))

-- the value of the text: that of the numeral or the word that the whole text is, unless it is out of range
abbrev pub float_of : Format → List ℕ → Option Float
float_of f s =
    option_and_then (λ x. if is_out_of_range (scan_numeral (without_sign s)) x then None else Some x) (parse_float f s)
