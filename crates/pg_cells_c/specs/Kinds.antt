-- How the code rewrites cells: by a few formats, each of which several types have.
use Rattle.std.specs.Prelude.{◌≡◌, ◌==◌, ℕ, List, [], ◌∷◌, ◌++◌, Option, Some, None, Result, Ok, Err, if◌then◌else◌, pos}
use Rattle.std.specs.Prelude.{false, take, drop, slice_index}
use Rattle.std.specs.Int.{w32}
use Rattle.pg_base.specs.Bits.{first_bits, first_fault_bits, packed}
use Rattle.pg_base.specs.Cells.{be}
use Rattle.pg_base.specs.Counts.{after_number, count_or_zero, number_in}
use Rattle.pg_base.specs.Network.{first_fault_cidr, first_fault_inet}
use Rattle.pg_base.specs.Numbers.{first_fault_number}
use Rattle.pg_base.specs.Texts.{first_fault_text}
use Rattle.pg_cells_c.specs.Rewriting.{rewritten_rows, row_among}
use Rattle.pg_cells_c.specs.Writings.{WritesInto}
use Rattle.pg_cells_c.specs.declared.rewrite.kinds.Kind.{Kind}
use Rattle.pg_cells_c.specs.declared.rewrite.kinds.Kind.TheVariants as kind
use Rattle.pg_types.specs.Faults.{Outcome, Refusal, number_of}
use Rattle.pg_types.specs.declared.types.built_in.BuiltIn.{BuiltIn as Row}
use Rattle.pg_types.specs.declared.types.built_in.BuiltIn.TheVariants as row

-- the format of a type's cells
abbrev pub kind_of_row : Row → Option Kind
kind_of_row row.Bool = Some kind.Bool
kind_of_row row.Bytea = Some kind.Bytea
kind_of_row row.Char = Some (kind.Fixed 1)
kind_of_row row.Name = Some kind.Text
kind_of_row row.Int8 = Some (kind.Fixed 8)
kind_of_row row.Int2 = Some (kind.Fixed 2)
kind_of_row row.Int4 = Some (kind.Fixed 4)
kind_of_row row.Text = Some kind.Text
kind_of_row row.Oid = Some (kind.Fixed 4)
kind_of_row row.Cidr = Some kind.Cidr
kind_of_row row.Unknown = Some kind.Text
kind_of_row row.Macaddr = Some (kind.Fixed 6)
kind_of_row row.Inet = Some kind.Inet
kind_of_row row.Bpchar = Some kind.Text
kind_of_row row.Varchar = Some kind.Text
kind_of_row row.Date = Some (kind.Fixed 4)
kind_of_row row.Time = Some (kind.Fixed 8)
kind_of_row row.Timestamp = Some (kind.Fixed 8)
kind_of_row row.Timestamptz = Some (kind.Fixed 8)
kind_of_row row.Interval = Some (kind.Fixed 16)
kind_of_row row.Bit = Some kind.Bits
kind_of_row row.Varbit = Some kind.Bits
kind_of_row row.Uuid = Some (kind.Fixed 16)
kind_of_row row.PgLsn = Some (kind.Fixed 8)
kind_of_row _ = None

-- the same, if there is a type
abbrev pub kind_by_row : Option Row → Option Kind
kind_by_row None = None
kind_by_row (Some r) = kind_of_row r

-- the format of the cells of the type with that OID
abbrev pub kind_at : ℕ → Option Kind
kind_at oid = kind_by_row (row_among rewritten_rows oid)

-- the fault of the first check that a cell fails
abbrev pub fault_of_kind : Kind → List ℕ → Option Refusal
fault_of_kind kind.Bool b = first_fault_number 1 b
fault_of_kind kind.Bytea b = None
fault_of_kind kind.Text b = first_fault_text false b
fault_of_kind (kind.Fixed width) b = first_fault_number width b
fault_of_kind kind.Bits b = first_fault_bits b
fault_of_kind kind.Inet b = first_fault_inet b
fault_of_kind kind.Cidr b = first_fault_cidr b

-- the cell of an address with the flag 0
abbrev pub without_flag : List ℕ → List ℕ
without_flag b = take 2 b ++ 0 ∷ drop 3 b

-- the number of bits of a cell
abbrev pub bit_count : List ℕ → ℕ
bit_count b = count_or_zero (number_in b)

-- the cell of the same bits, with zeros for the padding bits
abbrev pub with_zero_pad : List ℕ → List ℕ
with_zero_pad b = be w32 (pos (bit_count b)) ++ packed (first_bits (bit_count b) (after_number b))

-- the new cell of a cell that passes the checks
abbrev pub bytes_of_kind : Kind → List ℕ → List ℕ
bytes_of_kind kind.Bool b = (if slice_index b 0 == 0 then 0 else 1) ∷ []
bytes_of_kind kind.Bytea b = b
bytes_of_kind kind.Text b = b
bytes_of_kind (kind.Fixed width) b = b
bytes_of_kind kind.Bits b = with_zero_pad b
bytes_of_kind kind.Inet b = without_flag b
bytes_of_kind kind.Cidr b = without_flag b

-- the bytes, or the fault if there is one
abbrev pub or_fault : Option Refusal → List ℕ → Outcome (List ℕ)
or_fault None c = Ok c
or_fault (Some r) c = Err r

-- what a cell is rewritten to
abbrev pub rewritten : Kind → List ℕ → Outcome (List ℕ)
rewritten k b = or_fault (fault_of_kind k b) (bytes_of_kind k b)

-- the bytes were written if there was room for them, and the result is their number; or the result is the number of the
-- fault, and the buffer is unchanged
unfoldable pub WritesOutcome : Outcome (List ℕ) → List ℕ → List ℕ → Result ℕ ℕ → Type 0
WritesOutcome (Ok c) old new (Ok n) = WritesInto c old new n
WritesOutcome (Ok c) old new (Err n) = ⊥
WritesOutcome (Err r) old new (Ok n) = ⊥
WritesOutcome (Err r) old new (Err n) = (new ≡ old) × (n ≡ number_of r)
