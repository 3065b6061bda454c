-- The escapes of COPY's text format (CopyAttributeOutText).
use Rattle.std.specs.Prelude.{◌≡◌, ◌<◌, ◌≤◌, ℕ, ◌==◌, Bool, true, List, [], ◌∷◌, ◌++◌, Option, Some, None, is_none}
use Rattle.std.specs.Prelude.{if◌then◌else◌, slice_index}

-- the letter that stands for a byte after a backslash, if it has one
abbrev pub letter_of : ℕ → Option ℕ
letter_of byte =
    if byte == 8 then Some 98
    else if byte == 9 then Some 116
    else if byte == 10 then Some 110
    else if byte == 11 then Some 118
    else if byte == 12 then Some 102
    else if byte == 13 then Some 114
    else if byte == 92 then Some 92
    else None

-- a letter; 0 is none
abbrev pub letter_in : ℕ → Option ℕ
letter_in letter = if letter == 0 then None else Some letter

-- a byte, or a backslash and the letter that stands for it
abbrev pub escaped_byte : ℕ → Option ℕ → List ℕ
escaped_byte byte None = byte ∷ []
escaped_byte byte (Some letter) = 92 ∷ letter ∷ []

-- a text in which each byte that has a letter is escaped
abbrev pub escaped : List ℕ → List ℕ
escaped [] = []
escaped (byte ∷ text) = escaped_byte byte (letter_of byte) ++ escaped text

-- whether a byte stands for itself
abbrev pub is_plain : ℕ → Bool
is_plain byte = is_none (letter_of byte)

-- the bytes from one index to another stand for themselves
abbrev pub PlainBetween : List ℕ → ℕ → ℕ → Type 0
PlainBetween text from to = (k : ℕ) → from ≤ k → k < to → is_plain (slice_index text k) ≡ true
