-- Messages that others complete: their beginning, and the length at their end.
use Rattle.std.specs.Prelude.{◌≡◌, ◌⊎◌, ◌+◌, ◌-◌, ◌<◌, ◌≤◌, ◌++◌, ℕ, List, [], ◌∷◌, length, take, drop}
use Rattle.std.specs.Prelude.{Result, Ok, Err, IsSomeAnd, codes, ⊤}
use Rattle.std.specs.Int.{to_be_bytes, w32}
use Rattle.bytes.specs.Filled.{Filled}
use Rattle.pg_base.specs.Cells.{max_length}
use Rattle.pg_types.specs.declared.fault.Fault.{Fault}
use Rattle.pg_types.specs.Faults.{Refusal, refusal_of, transmit, user}
use Rattle.pg_messages.specs.Fields.{Extends, Form, Sends, string}
use Rattle.pg_messages.specs.Frontend.{tagged}

-- a Bind message up to the parameters: the names of the portal and of the statement
abbrev pub begun_bind : List ℕ → List ℕ → Form
begun_bind portal statement = tagged 66 (string portal ∷ string statement ∷ [])

-- the beginning of a message was appended, at this offset; or it was refused
abbrev pub Begins : Form → Filled → Filled → Result ℕ Fault → Type 0
Begins form old new (Ok at) = (at ≡ length old.items) × Extends form old new
Begins form old new (Err f) = Sends form old new (Err f)

-- why the length of a message at an offset is not set: nothing that long follows, or the length does not fit
abbrev pub IsNoEnd : ℕ → List ℕ → Refusal → Type 0
IsNoEnd at items r =
    ((length items < at + 5) × (r ≡ user (codes "no message at the offset")))
    ⊎ ((max_length < length items - at - 1) × (r ≡ transmit))

-- the length of the message at an offset, up to the end, was put in its place, after the tag; or it is refused, and the
-- buffer is as it was
abbrev pub Ends : ℕ → Filled → Filled → Result ⊤ Fault → Type 0
Ends at old new (Ok done) =
    (at + 5 ≤ length old.items)
    × (length old.items - at - 1 ≤ max_length)
    × (new.items
    ≡ take (at + 1) old.items ++ (to_be_bytes w32 (length old.items - at - 1) ++ drop (at + 1 + 4) old.items))
    × (new.spare ≡ old.spare)
Ends at old new (Err f) = (new ≡ old) × IsSomeAnd (refusal_of f) (IsNoEnd at old.items)
