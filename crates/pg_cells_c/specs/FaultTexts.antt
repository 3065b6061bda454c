-- The texts of faults.
use Rattle.std.specs.Prelude.{ℕ, List, [], ◌∷◌, ◌++◌, codes, slice_index_or}
use Rattle.pg_types.specs.FaultTexts.{was_null_text}

-- a text as a C string: a zero byte ends it
abbrev pub c_string : List ℕ → List ℕ
c_string text = text ++ 0 ∷ []

-- the texts by their numbers, from 0, which is no fault; details of a fault, which a text in Rust can have, are left
-- out
abbrev pub fault_texts : List (List ℕ)
fault_texts =
    c_string (codes "no fault")
    ∷ c_string (codes "out of memory")
    ∷ c_string was_null_text
    ∷ c_string (codes "cannot convert between the Rust type and the Postgres type")
    ∷ c_string (codes "invalid buffer size")
    ∷ c_string (codes "invalid UTF-8")
    ∷ c_string (codes "invalid count")
    ∷ c_string (codes "invalid key length")
    ∷ c_string (codes "array contains too many dimensions")
    ∷ c_string (codes "too few elements in array")
    ∷ c_string (codes "excess elements in array")
    ∷ c_string (codes "value too large to decode")
    ∷ c_string (codes "value too large to transmit")
    ∷ c_string (codes "unsupported JSONB encoding version")
    ∷ c_string (codes "unsupported text version")
    ∷ c_string (codes "invalid JSON")
    ∷ c_string (codes "JSON number is not a whole number")
    ∷ c_string (codes "invalid IP family")
    ∷ c_string (codes "invalid netmask")
    ∷ c_string (codes "invalid address length")
    ∷ c_string (codes "host bits are set")
    ∷ c_string (codes "refused by a user-defined type")
    ∷ c_string (codes "invalid field count")
    ∷ c_string (codes "unexpected field type")
    ∷ []

-- the text of a number, with a zero byte at its end
abbrev pub fault_text : ℕ → List ℕ
fault_text number = slice_index_or fault_texts number (c_string (codes "unknown fault"))
