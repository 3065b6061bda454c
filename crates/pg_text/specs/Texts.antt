-- The texts of values, as PostgreSQL's output functions write them.
use Rattle.std.specs.Prelude.{◌≡◌, ◌⊎◌, ◌==◌, ◌+◌, ◌-◌, ◌*◌, ◌/◌, ◌%◌, ◌&&◌, ℕ, ℤ, List, [], ◌∷◌, ◌++◌, Bool, true, false}
use Rattle.std.specs.Prelude.{codes, nat_le, nat_lt, if◌then◌else◌, Ok, Option, Some, None, option_map}
use Rattle.std.specs.Prelude.{◌≤◌, length, map, take}
use Rattle.std.specs.Char.{to_ascii_lowercase}
use Rattle.std.specs.Int.{cast_signed, cast_unsigned, w8}
use Rattle.hex.specs.Hex.{decode_of, encode_lower}

-- the text of the value was appended
abbrev pub Shows : {A : Type 0} → (A → List ℕ) → A → List ℕ → List ℕ → Type 0
Shows text value old new = new ≡ old ++ text value

-- nothing is claimed of the text
abbrev pub AnyText : {A : Type 0} → A → List ℕ → List ℕ → Type 0
AnyText value old new = Unit {0}

-- nothing is claimed of the value that the text stands for
abbrev pub AnyValue : {A : Type 0} → List ℕ → A → Type 0
AnyValue text value = Unit {0}

-- the text says a value
abbrev pub SaysAny : {A : Type 0} → (List ℕ → A → Type 0) → List ℕ → Type 0
SaysAny {A} says text = (v : A) × says text v

-- BOOL (boolout)
abbrev pub bool_text : Bool → List ℕ
bool_text true = codes "t"
bool_text false = codes "f"

-- the text has the first letters of the word, in either case, and so many of them at least
abbrev pub IsPrefix : ℕ → List ℕ → List ℕ → Type 0
IsPrefix least word text =
    (least ≤ length text) × (map to_ascii_lowercase text ≡ map to_ascii_lowercase (take (length text) word))

-- what is parsed as BOOL (parse_bool): true, yes, on or 1, and false, no, off or 0, each in either case, and their first
-- letters where no word of the other value has them
abbrev pub SaysBool : List ℕ → Bool → Type 0
SaysBool text true =
    IsPrefix 1 (codes "true") text ⊎ IsPrefix 1 (codes "yes") text ⊎ IsPrefix 2 (codes "on") text
    ⊎ IsPrefix 1 (codes "1") text
SaysBool text false =
    IsPrefix 1 (codes "false") text ⊎ IsPrefix 1 (codes "no") text ⊎ IsPrefix 2 (codes "off") text
    ⊎ IsPrefix 1 (codes "0") text

-- BYTEA, with bytea_output hex (byteaout)
abbrev pub bytes_text : List ℕ → List ℕ
bytes_text bytes = codes "\\x" ++ encode_lower bytes

-- the digit is one from 0 to last
abbrev pub is_octal_digit : ℕ → ℕ → Bool
is_octal_digit last digit = nat_le 48 digit && nat_le digit last

-- the byte of three octal digits, if they are one
abbrev pub octal_of : ℕ → ℕ → ℕ → Option ℕ
octal_of high middle low =
    if is_octal_digit 51 high && is_octal_digit 55 middle && is_octal_digit 55 low
    then Some ((high - 48) * 64 + (middle - 48) * 8 + (low - 48))
    else None

-- the byte of three octal digits, and what follows them
abbrev pub octal_byte : List ℕ → Option (ℕ × List ℕ)
octal_byte (a ∷ b ∷ c ∷ rest) = option_map (λ byte. (byte, rest)) (octal_of a b c)
octal_byte text = None

-- the byte after a backslash: a backslash, or that of three octal digits
abbrev pub backslash_byte : List ℕ → Option (ℕ × List ℕ)
backslash_byte [] = None
backslash_byte (a ∷ rest) = if a == 92 then Some (92, rest) else octal_byte (a ∷ rest)

-- the first byte of the escape format, and what follows it
abbrev pub escaped_byte : List ℕ → Option (ℕ × List ℕ)
escaped_byte [] = None
escaped_byte (a ∷ rest) = if a == 92 then backslash_byte rest else Some (a, rest)

-- the bytes of a text in the escape format
abbrev pub SaysEscaped : List ℕ → List ℕ → Type 0
SaysEscaped text [] = text ≡ []
SaysEscaped text (byte ∷ bytes) =
    (rest : List ℕ) × (escaped_byte text ≡ Some (byte, rest)) × SaysEscaped rest bytes

-- what is parsed as BYTEA (byteain): `\x` and hexadecimal digits of either case, or the escape format
abbrev pub SaysBytes : List ℕ → List ℕ → Type 0
SaysBytes text bytes =
    ((digits : List ℕ) × (text ≡ codes "\\x" ++ digits) × (decode_of digits ≡ Ok bytes)) ⊎ SaysEscaped text bytes

-- CHAR (charout): no byte for 0, a byte below 128, and otherwise a backslash and three octal digits
abbrev pub byte_text : ℕ → List ℕ
byte_text byte =
    if byte == 0 then []
    else if nat_lt byte 128 then byte ∷ []
    else 92 ∷ (48 + byte / 64) ∷ (48 + byte / 8 % 8) ∷ (48 + byte % 8) ∷ []

abbrev pub char_text : ℤ → List ℕ
char_text value = byte_text (cast_unsigned w8 value)

-- what is parsed as CHAR, of the texts that charin accepts: those of charout, and each byte in three octal digits
abbrev pub byte_said : List ℕ → Option ℕ
byte_said [] = Some 0
byte_said (byte ∷ []) = Some byte
byte_said (escape ∷ high ∷ middle ∷ low ∷ []) = if escape == 92 then octal_of high middle low else None
byte_said text = None

abbrev pub SaysChar : List ℕ → ℤ → Type 0
SaysChar text value = option_map (cast_signed w8) (byte_said text) ≡ Some value
