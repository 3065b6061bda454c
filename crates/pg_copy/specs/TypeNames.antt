-- The names of the types of columns, as PostgreSQL has them.
use Rattle.std.specs.Char.{is_ascii_digit}
use Rattle.std.specs.List.{after_last, list_all, starts_with}
use Rattle.std.specs.Option.{option_or}
use Rattle.std.specs.Prelude.{◌≡◌, ◌≢◌, ◌==◌, ◌||◌, ℕ, zero, suc, Bool, List, [], ◌∷◌, ◌++◌, Option, Some, None}
use Rattle.std.specs.Prelude.{if◌then◌else◌, codes, nat_lt, option_and_then, option_map, reverse}
use Rattle.std.specs.Str.{str_to_ascii_lowercase, trim_end}
use Rattle.pg_copy.specs.Types.{base_of}
use Rattle.pg_copy.specs.Words.{parts_around}
use Rattle.pg_copy.specs.declared.types.Base.{Base}
use Rattle.pg_copy.specs.declared.types.Base.TheVariants as base

-- the text without so many pairs of brackets at its end, and without the white space before each of them
abbrev pub IsWithoutPairs : ℕ → List ℕ → List ℕ → Type 0
IsWithoutPairs zero name text = name ≡ text
IsWithoutPairs (suc n) name text =
    (longer : List ℕ) × (before : List ℕ) × IsWithoutPairs n longer text × (longer ≡ before ++ codes "[]")
    × (name ≡ trim_end before)

-- the text of a type is this name, or it is followed by a pair of brackets for each dimension of an array
abbrev pub IsTypeText : List ℕ → Bool → List ℕ → Type 0
IsTypeText name is_array text =
    (dimensions : ℕ) × IsWithoutPairs dimensions name text × ((front : List ℕ) → name ≢ front ++ codes "[]")
    × (is_array ≡ nat_lt 0 dimensions)

-- the text without this byte at its start, if it has it there
abbrev pub without_first : ℕ → List ℕ → Option (List ℕ)
without_first sought [] = None
without_first sought (byte ∷ text) = if byte == sought then Some text else None

-- the text without this byte at its end, if it has it there
abbrev pub without_last : ℕ → List ℕ → Option (List ℕ)
without_last sought text = option_map reverse (without_first sought (reverse text))

-- what stands between this first byte and this last one, if the text begins and ends with them
abbrev pub between : ℕ → ℕ → List ℕ → Option (List ℕ)
between first last text = option_and_then (without_last last) (without_first first text)

-- the type of a name in lower case, without a schema or a modifier: interval may have fields after it, and the name of
-- another type may be quoted
abbrev pub plain_type : List ℕ → Option Base
plain_type name =
    if starts_with ◌==◌ name (codes "interval ") then Some base.Interval
    else option_or (base_of name) (option_and_then base_of (between 34 34 name))

-- a modifier: digits, hyphens, commas and spaces
abbrev pub is_modifier : List ℕ → Bool
is_modifier = list_all (λ byte. is_ascii_digit byte || byte == 45 || byte == 44 || byte == 32)

-- what is left of a name around a modifier
abbrev pub around_modifier : List ℕ → List ℕ × List ℕ → Option (List ℕ)
around_modifier before parts = if is_modifier parts.0 then Some (trim_end before ++ parts.1) else None

-- a name without its modifier, which is in parentheses, and the white space before it: what stood around the first
-- parenthesis is given. A parenthesis that is not closed, or has something else in it, has no name
abbrev pub unmodified : List ℕ → Option (List ℕ × List ℕ) → Option (List ℕ)
unmodified name None = Some name
unmodified name (Some (before, rest)) = option_and_then (around_modifier before) (parts_around 41 rest)

-- a name without its modifier
abbrev pub without_modifier : List ℕ → Option (List ℕ)
without_modifier name = unmodified name (parts_around 40 name)

-- a name without its schema, which ends at the last point
abbrev pub without_schema : List ℕ → List ℕ
without_schema name = after_last (λ byte. byte == 46) name

-- the type of a name, as PostgreSQL prints it
abbrev pub type_named : List ℕ → Option Base
type_named name =
    option_and_then (λ plain. plain_type (without_schema (str_to_ascii_lowercase plain))) (without_modifier name)
