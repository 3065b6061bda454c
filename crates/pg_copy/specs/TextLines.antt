-- Lines of the text format of COPY, as they are read (CopyReadAttributesText).
use Rattle.std.specs.Prelude.{◌≡◌, ◌≢◌, ◌==◌, ◌||◌, ◌&&◌, nat_le, ℕ, Bool, true, false, List, [], ◌∷◌, if◌then◌else◌}
use Rattle.std.specs.Prelude.{Option, Some, None, option_map, ◌++◌}
use Rattle.std.specs.List.{AllByRecursion, slice_split}

-- the fields of a line: the parts between its tabs
abbrev pub fields_of : List ℕ → List (List ℕ)
fields_of line = slice_split (λ byte. byte == 9) line

-- the fields of the rest of a line, if there is a rest
abbrev pub fields_left : Option (List ℕ) → List (List ℕ)
fields_left None = []
fields_left (Some rest) = fields_of rest

-- whether a byte is refused after a backslash: a digit of an octal number, the x of a hexadecimal one, or the period,
-- which ends the data
abbrev pub is_refused_byte : ℕ → Bool
is_refused_byte byte = (nat_le 48 byte && nat_le byte 55) || (byte == 120) || (byte == 46)

-- the byte for which one stands after a backslash: these letters for control bytes, and any other for itself
abbrev pub letter_byte : ℕ → ℕ
letter_byte letter =
    if letter == 98 then 8
    else if letter == 116 then 9
    else if letter == 110 then 10
    else if letter == 118 then 11
    else if letter == 102 then 12
    else if letter == 114 then 13
    else letter

-- a byte before a text, if there is one
abbrev pub prepend : ℕ → Option (List ℕ) → Option (List ℕ)
prepend byte text = option_map (λ rest. byte ∷ rest) text

-- the text of these bytes, which follow a backslash or not: a carriage return has to be escaped, and a backslash at the
-- end is refused
abbrev pub unescaped_after : Bool → List ℕ → Option (List ℕ)
unescaped_after false [] = Some []
unescaped_after true [] = None
unescaped_after false (byte ∷ rest) =
    if byte == 92 then unescaped_after true rest
    else if byte == 13 then None
    else prepend byte (unescaped_after false rest)
unescaped_after true (letter ∷ rest) =
    if is_refused_byte letter then None else prepend (letter_byte letter) (unescaped_after false rest)

-- no byte of the text is a backslash or a carriage return
abbrev pub LacksEscapes : List ℕ → Type 0
LacksEscapes = AllByRecursion (λ byte. (byte == 92 || byte == 13) ≡ false)

-- the text with its escapes undone
abbrev pub unescaped : List ℕ → Option (List ℕ)
unescaped text = unescaped_after false text

-- the text was appended with its escapes undone, or there is no such text
abbrev pub Unescapes : List ℕ → List ℕ → List ℕ → Bool → Type 0
Unescapes text old new true = (said : List ℕ) × (unescaped text ≡ Some said) × (new ≡ old ++ said)
Unescapes text old new false = unescaped text ≡ None

-- the field stands for the text; \N and no other field stands for NULL, which is None
abbrev pub Says : List ℕ → Option (List ℕ) → Type 0
Says field None = field ≡ 92 ∷ 78 ∷ []
Says field (Some text) = (field ≢ 92 ∷ 78 ∷ []) × (unescaped field ≡ Some text)
