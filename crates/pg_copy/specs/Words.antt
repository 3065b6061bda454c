-- How the text of types is divided.
use Rattle.std.specs.Borrow.{Bor}
use Rattle.std.specs.List.{onto_first}
use Rattle.std.specs.Prelude.{◌≡◌, ◌==◌, ◌&&◌, ◌+◌, ◌-◌, ℕ, Bool, true, false, not, List, [], ◌∷◌, Option, Some, None}
use Rattle.std.specs.Prelude.{◌<◌, if◌then◌else◌, drop, length, option_map, slice_index, take}

-- within how many parentheses what follows a byte is; those in double quotes do not count
abbrev pub depth_after : ℕ → ℕ → Bool → ℕ
depth_after byte depth is_quoted =
    if is_quoted then depth else if byte == 40 then depth + 1 else if byte == 41 then depth - 1 else depth

-- whether what follows a byte is within double quotes
abbrev pub is_quoted_after : ℕ → Bool → Bool
is_quoted_after byte is_quoted = if byte == 34 then not is_quoted else is_quoted

-- whether a byte is a comma outside parentheses and double quotes
abbrev pub divides : ℕ → ℕ → Bool → Bool
divides byte depth is_quoted = byte == 44 && depth == 0 && not is_quoted

-- the parts of a text within so many parentheses and, it may be, in double quotes, between the commas outside both
abbrev pub pieces_within : ℕ → Bool → List ℕ → List (List ℕ)
pieces_within depth is_quoted [] = [] ∷ []
pieces_within depth is_quoted (byte ∷ text) =
    let rest = pieces_within (depth_after byte depth is_quoted) (is_quoted_after byte is_quoted) text in
    if divides byte depth is_quoted then [] ∷ rest else onto_first byte rest

-- the parts of a text between the commas that are outside parentheses and double quotes
abbrev pub pieces : List ℕ → List (List ℕ)
pieces text = pieces_within 0 false text

-- the parts of what follows a comma, if there is one
abbrev pub pieces_of_rest : Option (Bor (List ℕ)) → List (List ℕ)
pieces_of_rest None = []
pieces_of_rest (Some rest) = pieces rest.now

-- the first comma that divides a text is at this place, or there is none
abbrev pub IsCommaOf : List ℕ → Option ℕ → Type 0
IsCommaOf text None = pieces text ≡ text ∷ []
IsCommaOf text (Some place) =
    (slice_index text place ≡ 44) × (place < length text)
    × (pieces text ≡ take place text ∷ pieces (drop (place + 1) text))

-- the texts before and after the first of this byte, if there is one
abbrev pub parts_around : ℕ → List ℕ → Option (List ℕ × List ℕ)
parts_around sought [] = None
parts_around sought (byte ∷ text) =
    if byte == sought then Some ([], text)
    else option_map (λ parts. (byte ∷ parts.0, parts.1)) (parts_around sought text)

-- what follows the first space, if there is one
abbrev pub after_space : List ℕ → Option (List ℕ)
after_space text = option_map (λ parts. parts.1) (parts_around 32 text)

-- what follows the quote that ends a name, in which two quotes are one; the flag is whether the last byte before the
-- text was a quote that may end it
abbrev pub after_quotes : Bool → List ℕ → Option (List ℕ)
after_quotes false [] = None
after_quotes true [] = Some []
after_quotes false (byte ∷ text) = after_quotes (byte == 34) text
after_quotes true (byte ∷ text) = if byte == 34 then after_quotes false text else Some (byte ∷ text)

-- what follows a name, which is in double quotes or ends at a space
abbrev pub after_name : List ℕ → Option (List ℕ)
after_name [] = None
after_name (byte ∷ text) = if byte == 34 then after_quotes false text else after_space (byte ∷ text)
