-- A fixed number of bytes: MACADDR has 6 (macaddr_send, macaddr_recv), and UUID has 16 (uuid_send, uuid_recv).
use Rattle.std.specs.Prelude.{◌≡◌, ℕ, ◌==◌, List, length, Some, if◌then◌else◌, Ok, Err}
use Rattle.pg_base.specs.Cells.{Cell}
use Rattle.pg_types.specs.Faults.{Outcome, transmit}
use Rattle.pg_base.specs.Formats.{ReadsPlain}
use Rattle.pg_base.specs.Numbers.{first_fault_number}
use Rattle.pg_base.specs.Appending.{Wire}

-- bytes of the width spell themselves
abbrev pub FormFixedBytes : ℕ → List ℕ → List ℕ → Type 0
FormFixedBytes width b v = (v ≡ b) × (length b ≡ width)

-- what a cell reads as
abbrev pub ReadsFixedBytes : ℕ → Cell → Outcome (List ℕ) → Type 0
ReadsFixedBytes width = ReadsPlain (FormFixedBytes width) (first_fault_number width)

-- the cell of such bytes: the bytes themselves, or Transmit if their number is not the width
abbrev pub wire_fixed_bytes : ℕ → List ℕ → Wire
wire_fixed_bytes width v = if length v == width then Ok (Some v) else Err transmit
