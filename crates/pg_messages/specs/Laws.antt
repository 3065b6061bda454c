-- Laws of messages.
use Rattle.std.specs.Prelude.{◌≡◌, ◌+◌, ◌++◌, ℕ, ℤ, pos, List, ◌∷◌, length, IsUtf8, Ok, Some, ⊤}
use Rattle.bytes.specs.Filled.{Filled}
use Rattle.pg_messages.specs.Beginnings.{Ends}
use Rattle.pg_messages.specs.Fields.{Form, string, sum, with_length}
use Rattle.pg_messages.specs.Framing.{BeginsMessage}
use Rattle.pg_messages.specs.Frontend.{tagged}
use Rattle.pg_messages.specs.Reading.{string_at}

-- bytes begin with one tag and one length
abbrev pub OneMessage : Type 0
OneMessage =
    (s : List ℕ) (tag other : ℕ) (len more : ℤ) (rest left : List ℕ) → BeginsMessage s tag len rest
    → BeginsMessage s other more left → (tag ≡ other) × (len ≡ more) × (rest ≡ left)

-- a message that is sent has the tag, the length and the body with which it is taken, whatever follows it
abbrev pub SentIsTaken : Type 0
SentIsTaken =
    (tag : ℕ) (fields : List Form) (bytes after : List ℕ) → tagged tag fields ≡ Ok bytes
    → (body : List ℕ) × (sum fields ≡ Ok body)
    × BeginsMessage (bytes ++ after) tag (pos (4 + length body)) (body ++ after)

-- a text that is sent is read, and so are the bytes after it
abbrev pub StringIsRead : Type 0
StringIsRead =
    (text bytes after : List ℕ) → IsUtf8 text → string text ≡ Ok bytes → string_at (bytes ++ after) ≡ Some (text, after)

-- what was begun, with whatever was appended, is a message once its length is set
abbrev pub EndedIsMessage : Type 0
EndedIsMessage =
    (before : List ℕ) (tag : ℕ) (length_bytes body : List ℕ) (old new : Filled) (done : ⊤) → length length_bytes ≡ 4
    → old.items ≡ before ++ tag ∷ (length_bytes ++ body) → Ends (length before) old new (Ok done)
    → (bytes : List ℕ) × (with_length body ≡ Ok bytes) × (new.items ≡ before ++ tag ∷ bytes)
