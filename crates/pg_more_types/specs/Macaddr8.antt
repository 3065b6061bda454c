-- MACADDR8 is 8 bytes (macaddr8_send); its text has the digits of each byte, with colons between (macaddr8_out).
use Rattle.std.specs.Prelude.{◌≡◌, ◌==◌, ◌||◌, ℕ, zero, suc, Bool, List, [], ◌∷◌, MatchResult, Ok, Option, Result}
use Rattle.std.specs.Prelude.{Some, None, codes, if◌then◌else◌, length, option_and_then, option_map}
use Rattle.std.specs.List.{find}
use Rattle.hex.specs.Hex.{decode_of}
use Rattle.pg_numbers.specs.CatalogTypes.{has_oid}
use Rattle.pg_types.specs.Content.{Content}
use Rattle.pg_types.specs.declared.fault.Fault.{Fault}
use Rattle.pg_types.specs.Faults.{refusal_of, user}

-- the type is MACADDR8
abbrev pub is_macaddr8 : Content → Bool
is_macaddr8 = has_oid 774

-- a colon, a hyphen or a point
abbrev pub is_separator : ℕ → Bool
is_separator byte = byte == 58 || byte == 45 || byte == 46

-- the text without the separator at its front, if it has it there
abbrev pub after_separator : Option ℕ → List ℕ → List ℕ
after_separator None text = text
after_separator (Some separator) [] = []
after_separator (Some separator) (byte ∷ text) = if byte == separator then text else byte ∷ text

-- the byte, if there is one
abbrev pub only_byte : {E : Type 0} → Result (List ℕ) E → Option ℕ
only_byte (Ok (byte ∷ [])) = Some byte
only_byte other = None

-- the byte of the two hexadecimal digits, of either case, at the front, and what follows them and the separator
abbrev pub byte_said : Option ℕ → List ℕ → Option (ℕ × List ℕ)
byte_said separator (high ∷ low ∷ text) =
    option_map (λ byte. (byte, after_separator separator text)) (only_byte (decode_of (high ∷ low ∷ [])))
byte_said separator text = None

-- so many bytes, which are the whole text
abbrev pub bytes_said : ℕ → Option ℕ → List ℕ → Option (List ℕ)
bytes_said zero separator [] = Some []
bytes_said zero separator (byte ∷ text) = None
bytes_said (suc n) separator text =
    option_and_then (λ r. option_map (λ bytes. r.0 ∷ bytes) (bytes_said n separator r.1)) (byte_said separator text)

-- what is parsed as MACADDR8 (macaddr8_in): the digits of eight bytes, after each of which a separator may stand, and
-- always the same
abbrev pub SaysMacaddr8 : List ℕ → List ℕ → Type 0
SaysMacaddr8 text bytes =
    (bytes_said (length bytes) (find is_separator text) text ≡ Some bytes) × (length bytes ≡ 8)

-- a text is read as the MAC address that it says, and refused with User where it says none
abbrev pub ParsesMacaddr8 : List ℕ → Result (List ℕ) Fault → Type 0
ParsesMacaddr8 text parsed =
    MatchResult parsed (SaysMacaddr8 text) (λ f.
    ((bytes : List ℕ) → SaysMacaddr8 text bytes → ⊥) × (refusal_of f ≡ Some (user (codes "no value of its type"))))
