-- Integers: CHAR (charsend), INT2, INT4, INT8 (int2send, int4send, int8send), OID (oidsend), PG_LSN (pg_lsn_send) and
-- BOOL (boolsend).
use Rattle.std.specs.Prelude.{◌≡◌, ℕ, ◌-◌, ◌^◌, ◌==◌, ℤ, pos, negsuc, List, [], ◌∷◌, Option, Some, Bool}
use Rattle.std.specs.Prelude.{true, false, not, nat_lt, if◌then◌else◌, Ok, Err}
use Rattle.std.specs.Int.{Width, byte_len, to_be_bytes}
use mir.Val.{bits}
use Rattle.pg_base.specs.Cells.{Cell, be, IsBe, IsBeUnsigned}
use Rattle.pg_base.specs.Counts.{length_check}
use Rattle.pg_types.specs.Faults.{Refusal, Outcome, transmit}
use Rattle.pg_base.specs.Formats.{first_fault_of, ReadsPlain}
use Rattle.pg_base.specs.Appending.{Wire}

-- any other length than the width's is Size
abbrev pub first_fault_number : ℕ → List ℕ → Option Refusal
first_fault_number width b = first_fault_of (length_check width b ∷ [])

-- CHAR, INT2, INT4, INT8: the bytes spell this number in the width, big-endian, in two's complement
abbrev pub FormSigned : Width → List ℕ → ℤ → Type 0
FormSigned = IsBe

-- what a cell of CHAR, INT2, INT4 or INT8 reads as
abbrev pub ReadsSigned : Width → Cell → Outcome ℤ → Type 0
ReadsSigned w = ReadsPlain (FormSigned w) (first_fault_number (byte_len w))

-- whether the number fits in the width
abbrev pub fits_signed : Width → ℤ → Bool
fits_signed w (pos n) = nat_lt n (2 ^ (bits w - 1))
fits_signed w (negsuc n) = nat_lt n (2 ^ (bits w - 1))

-- the cell of a number: its bytes in the width, or Transmit if it does not fit
abbrev pub wire_signed : Width → ℤ → Wire
wire_signed w z = if fits_signed w z then Ok (Some (be w z)) else Err transmit

-- OID, PG_LSN: the bytes spell this number in the width, big-endian, unsigned
abbrev pub FormUnsigned : Width → List ℕ → ℕ → Type 0
FormUnsigned = IsBeUnsigned

-- what a cell of OID or PG_LSN reads as
abbrev pub ReadsUnsigned : Width → Cell → Outcome ℕ → Type 0
ReadsUnsigned w = ReadsPlain (FormUnsigned w) (first_fault_number (byte_len w))

-- the cell of an unsigned number: its bytes in the width, or Transmit if it does not fit
abbrev pub wire_unsigned : Width → ℕ → Wire
wire_unsigned w n = if nat_lt n (2 ^ bits w) then Ok (Some (to_be_bytes w n)) else Err transmit

-- BOOL: one byte, 0 for false and any other for true
abbrev pub FormBool : List ℕ → Bool → Type 0
FormBool b v = (byte : ℕ) × (b ≡ byte ∷ []) × (v ≡ not (byte == 0))

-- what a cell of BOOL reads as
abbrev pub ReadsBool : Cell → Outcome Bool → Type 0
ReadsBool = ReadsPlain FormBool (first_fault_number 1)

-- the cell of a boolean: 0 or 1
abbrev pub wire_bool : Bool → Wire
wire_bool false = Ok (Some (0 ∷ []))
wire_bool true = Ok (Some (1 ∷ []))
