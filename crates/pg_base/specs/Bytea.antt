-- Byte strings: BYTEA (byteasend, bytearecv).
use Rattle.std.specs.Prelude.{◌≡◌, ℕ, List, [], Option, Some, Ok}
use Rattle.pg_base.specs.Cells.{Cell}
use Rattle.pg_types.specs.Faults.{Refusal, Outcome}
use Rattle.pg_base.specs.Formats.{first_fault_of, ReadsPlain}
use Rattle.pg_base.specs.Appending.{Wire}

-- any bytes spell themselves
abbrev pub FormBytes : {A : Type 0} → (A → List ℕ) → List ℕ → A → Type 0
FormBytes bytes_of b v = bytes_of v ≡ b

-- no check is made
abbrev pub first_fault_bytes : List ℕ → Option Refusal
first_fault_bytes b = first_fault_of []

-- what a cell reads as
abbrev pub ReadsBytes : {A : Type 0} → (A → List ℕ) → Cell → Outcome A → Type 0
ReadsBytes bytes_of = ReadsPlain (FormBytes bytes_of) first_fault_bytes

-- the cell of a byte string: these bytes
abbrev pub wire_bytes : List ℕ → Wire
wire_bytes b = Ok (Some b)
