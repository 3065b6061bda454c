-- Quotes within the texts of arrays, composite types and hstore.
use Rattle.std.specs.Prelude.{ℕ, ◌==◌, ◌||◌, ◌&&◌, List, [], ◌∷◌, ◌++◌, Bool, codes, length, map, nat_eq, nat_le}
use Rattle.std.specs.Prelude.{if◌then◌else◌}
use Rattle.std.specs.Char.{to_ascii_lowercase}
use Rattle.std.specs.Cmp.Lexicographic.{pointwise}
use Rattle.std.specs.List.{flat_map, list_any}
use Rattle.pg_text.specs.declared.quotes.Escape.{Escape}
use Rattle.pg_text.specs.declared.quotes.Escape.TheVariants.{Backslash, Twice}

-- white space (array_isspace, and isspace in record_out)
abbrev pub is_space : ℕ → Bool
is_space byte = byte == 32 || nat_le 9 byte && nat_le byte 13

-- a quote, and a backslash
abbrev pub is_escaped : ℕ → Bool
is_escaped byte = byte == 34 || byte == 92

-- the byte before such a byte: a backslash (array_out, hstore_out), or the byte itself (record_out)
abbrev pub escape_of : Escape → ℕ → ℕ
escape_of Backslash byte = 92
escape_of Twice byte = byte

abbrev pub escaped : Escape → ℕ → List ℕ
escaped escape byte = if is_escaped byte then escape_of escape byte ∷ byte ∷ [] else byte ∷ []

-- a text in double quotes
abbrev pub quoted : Escape → List ℕ → List ℕ
quoted escape text = 34 ∷ (flat_map (escaped escape) text ++ 34 ∷ [])

-- a quote, a backslash, a brace, a comma or white space, which no element without quotes has (array_out)
abbrev pub is_array_sign : ℕ → Bool
is_array_sign byte = is_escaped byte || byte == 123 || byte == 125 || byte == 44 || is_space byte

-- the word NULL in letters of either case
abbrev pub is_null_word : List ℕ → Bool
is_null_word text = pointwise nat_eq (map to_ascii_lowercase text) (codes "null")

-- an element is quoted if it is empty, is the word NULL or contains such a byte (array_out)
abbrev pub element_text : List ℕ → List ℕ
element_text text =
    if length text == 0 || is_null_word text || list_any is_array_sign text then quoted Backslash text else text

-- a quote, a backslash, a parenthesis, a comma or white space, for which a field is quoted (record_out)
abbrev pub is_record_sign : ℕ → Bool
is_record_sign byte = is_escaped byte || byte == 40 || byte == 41 || byte == 44 || is_space byte

-- a field is quoted if it is empty or contains such a byte (record_out)
abbrev pub field_text : List ℕ → List ℕ
field_text text = if length text == 0 || list_any is_record_sign text then quoted Twice text else text
