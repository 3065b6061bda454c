-- The cell of a value, and what an appender leaves in the buffer.
use Rattle.std.specs.Prelude.{◌≡◌, ℕ, ◌+◌, ◌<◌, ◌≤◌, List, ◌++◌, length, Option, Some, None, Result, Ok, Err, ⊤}
use Rattle.bytes.specs.Filled.{Filled}
use Rattle.pg_base.specs.Cells.{Cell}
use Rattle.pg_types.specs.Faults.{Refusal, transmit}
use Rattle.pg_types.specs.declared.fault.Fault.{Fault}
use Rattle.pg_types.specs.declared.fault.Fault.TheVariants.{Memory, Transmit}

-- a written form: a cell, or a refusal
abbrev pub Wire : Type 0
Wire = Result Cell Refusal

-- bytes, or Transmit if a limit is exceeded
abbrev pub wire_of : Option (List ℕ) → Wire
wire_of None = Err transmit
wire_of (Some b) = Ok (Some b)

-- how many bytes a buffer can hold without an allocation
abbrev pub capacity : Filled → ℕ
capacity f = length f.items + f.spare

-- the capacity did not shrink: appending used no more room than the bytes appended, and an error used none
abbrev pub KeepsCapacity : Filled → Filled → Type 0
KeepsCapacity old new = capacity old ≤ capacity new

-- these bytes were appended, and no more spare room was used than they have bytes
abbrev pub Extends : Option (List ℕ) → Filled → Filled → Type 0
Extends None old new = ⊥
Extends (Some b) old new = (new.items ≡ old.items ++ b) × (old.spare ≤ new.spare + length b)

-- an appender appended these bytes, and used no more spare room than they have bytes; or it failed with Memory, left
-- the bytes as they were, and there was less room than these bytes need. If a limit is exceeded there is nothing to
-- append: it failed with Transmit and left the buffer as it was
abbrev pub Appends : Option (List ℕ) → Filled → Filled → Result ⊤ Fault → Type 0
Appends bytes old new (Ok done) = Extends bytes old new
Appends (Some b) old new (Err f) = (new.items ≡ old.items) × (f ≡ Memory) × (old.spare < length b)
    × (old.spare ≤ new.spare)
Appends None old new (Err f) = (new ≡ old) × (f ≡ Transmit)

-- there are bytes to append, and room for them
abbrev pub HasRoomFor : Option (List ℕ) → ℕ → Type 0
HasRoomFor None room = ⊥
HasRoomFor (Some b) room = length b ≤ room

-- the number of bytes; Transmit if a limit is exceeded
abbrev pub Measures : Option (List ℕ) → Result ℕ Fault → Type 0
Measures bytes (Ok n) = (b : List ℕ) × (bytes ≡ Some b) × (length b ≡ n)
Measures bytes (Err f) = (f ≡ Transmit) × (bytes ≡ None)
