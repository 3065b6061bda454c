-- Why reading a binary COPY stops: which bytes are refused ("Binary Format" in the documentation of the command COPY).
use Rattle.std.specs.Prelude.{◌≡◌, ◌≢◌, ◌⊎◌, ◌+◌, ◌-◌, ◌^◌, ℕ, Bool, true, false, List, [], ◌∷◌, ◌++◌, length}
use Rattle.std.specs.Prelude.{Some, None, IsSome, min}
use Rattle.pg_base.specs.Cells.{Cell, SpellsAll}
use Rattle.pg_types.specs.Content.{content}
use Rattle.pg_types.specs.Faults.{Refusal, refusal_of}
use Rattle.pg_types.specs.declared.fault.Fault.{Fault}
use Rattle.pg_copy.specs.CellRefusals.{RefusesAs, RefusesCell, RefusesType}
use Rattle.pg_copy.specs.Lines.{AreFieldsOf, values_in}
use Rattle.pg_copy.specs.Rows.{BeginsRows, BeginsWithRows}
use Rattle.pg_copy.specs.declared.columns.Column.{Column}
use Rattle.pg_copy.specs.declared.copy_fault.CopyFault.{CopyFault}
use Rattle.pg_copy.specs.declared.copy_fault.CopyFault.TheVariants.{Memory, Signature, Oids, Flags, Extension}
use Rattle.pg_copy.specs.declared.copy_fault.CopyFault.TheVariants.{Read, Write, Truncated, Trailing, Columns, Length}
use Rattle.pg_copy.specs.declared.copy_fault.CopyFault.TheVariants.{Value}
use Rattle.pg_copy.specs.declared.copy_fault.Row.{Row}
use Rattle.pg_copy.specs.declared.copy_fault.Row.TheVariants.{Tuple}
use Rattle.pg_tuples.specs.Reading.{EndsInExtension, EndsInHeader, EndsInTuple}
use Rattle.pg_tuples.specs.Refusals.{RefusesHeader, RefusesTupleOf}
use Rattle.pg_tuples.specs.Tuples.{CountThen, FramesThen, trailer}
use Rattle.pg_tuples.specs.declared.header.HeaderFault.{HeaderFault}
use Rattle.pg_tuples.specs.declared.header.HeaderFault.TheVariants as header
use Rattle.pg_tuples.specs.declared.tuples.TupleFault.{TupleFault}
use Rattle.pg_tuples.specs.declared.tuples.TupleFault.TheVariants as tuple

-- memory ran out, or this holds of the fault
abbrev pub UnlessMemory : (CopyFault → Type 0) → CopyFault → Type 0
UnlessMemory Holds Memory = Unit {0}
UnlessMemory Holds fault = Holds fault

-- the framed cell of the column at the front has no text
abbrev pub RefusesIn : Column → List ℕ → Refusal → Type 0
RefusesIn column s refusal =
    RefusesType (content column.ty) refusal ⊎ RefusesCell (values_in column) (content column.ty) s refusal

-- no text was appended, because the type of the column has no such values, or because of the framed cell at the front
abbrev pub RefusesAt : Column → List ℕ → Refusal → Type 0
RefusesAt column = RefusesAs (values_in column) (content column.ty)

-- this number of rows, as far as it fits in 64 bits
abbrev pub row_count : ℕ → ℕ
row_count rows = min rows (2 ^ 64 - 1)

-- the row after this number of rows
abbrev pub next_row : ℕ → Row
next_row rows = Tuple (row_count (rows + 1))

-- the fault of a value in this row and in the column with this number; out of memory is not the fault of a value
abbrev pub IsValueFault : Row → ℕ → Column → Fault → CopyFault → Type 0
IsValueFault row number column fault Memory = refusal_of fault ≡ None
IsValueFault row number column fault (Value r at base is_array f) =
    IsSome (refusal_of fault) × (r ≡ row) × (at ≡ number) × (base ≡ column.base) × (is_array ≡ column.is_array)
    × (f ≡ fault)
IsValueFault row number column fault other = ⊥

-- the fault of a value in this row and in the column with this number, with such a refusal
abbrev pub ValueRefused : Row → ℕ → Column → (Refusal → Type 0) → CopyFault → Type 0
ValueRefused row number column Refuses (Value r at base is_array fault) =
    (r ≡ row) × (at ≡ number) × (base ≡ column.base) × (is_array ≡ column.is_array)
    × (refusal : Refusal) × (refusal_of fault ≡ Some refusal) × Refuses refusal
ValueRefused row number column Refuses fault = ⊥

-- the row at the front of the bytes is refused: the fault is that of its first column whose cell has no text
pub record RefusesRow (row : Row) (columns : List Column) (s : List ℕ) (fault : CopyFault) : Type 0 where
  -- the columns before that one
  pub done : List Column
  -- the column of the fault
  pub column : Column
  -- the columns after it
  pub later : List Column
  -- they follow one another
  pub are : columns ≡ done ++ column ∷ later
  -- the cells of the columns before
  pub cells : List Cell
  -- the fields of these cells
  pub fields : List (List ℕ)
  -- the cells have these fields
  pub of : AreFieldsOf done cells fields
  -- the bytes after these cells' frames
  pub rest : List ℕ
  -- they follow one another
  pub is : SpellsAll s cells rest
  -- the next cell is refused, in the column with the next number
  pub refused : ValueRefused row (length done + 1) column (RefusesIn column rest) fault

-- the fault of a refused header
abbrev pub header_fault : HeaderFault → CopyFault
header_fault header.Signature = Signature
header_fault header.Oids = Oids
header_fault header.Flags = Flags
header_fault header.Extension = Extension

-- the fault of a row whose tuple is refused
abbrev pub tuple_fault : Row → TupleFault → CopyFault
tuple_fault row (tuple.Columns expected got) = Columns row expected got
tuple_fault row (tuple.Length column) = Length row column

-- the bytes do not begin with a header, with this fault
abbrev pub HeaderRefused : List ℕ → CopyFault → Type 0
HeaderRefused s fault = (e : HeaderFault) × RefusesHeader s e × (fault ≡ header_fault e)

-- the bytes do not begin with a tuple of n columns, with this fault, which names the row
abbrev pub FrontRefused : Row → ℕ → List ℕ → CopyFault → Type 0
FrontRefused row n s fault = (e : TupleFault) × RefusesTupleOf n s e × (fault ≡ tuple_fault row e)

-- the bytes begin with a tuple whose row is refused
abbrev pub RefusesTuple : Row → List Column → List ℕ → CopyFault → Type 0
RefusesTuple row columns s fault =
    (frames rest : List ℕ) × FramesThen frames (length columns) [] × CountThen s (length columns) (frames ++ rest)
    × RefusesRow row columns frames fault

-- the bytes in place of a tuple are refused
abbrev pub TupleRefused : Row → List Column → List ℕ → CopyFault → Type 0
TupleRefused row columns s fault = FrontRefused row (length columns) s fault ⊎ RefusesTuple row columns s fault

-- trailing bytes come after the trailer
abbrev pub HasTrailing : List ℕ → CopyFault → Type 0
HasTrailing s fault = (fault ≡ Trailing) × (rest : List ℕ) × (s ≡ trailer ++ rest) × (rest ≢ [])

-- the bytes are refused with this fault after the rows of these lines, or in the header, before any row
abbrev pub Refused : List Column → List ℕ → List ℕ → CopyFault → Type 0
Refused columns s lines fault =
    ((lines ≡ []) × HeaderRefused s fault)
    ⊎ ((t rest : List ℕ) × (rows : List (List Cell)) × BeginsWithRows columns rows t lines × (s ≡ t ++ rest)
    × (TupleRefused (next_row (length rows)) columns rest fault ⊎ HasTrailing rest fault))

-- the bytes end after the rows of these lines, in or before a tuple or the trailer, or otherwise in the header
abbrev pub IsTruncated : List Column → List ℕ → List ℕ → Type 0
IsTruncated columns s lines =
    ((lines ≡ []) × (EndsInHeader s ⊎ EndsInExtension s))
    ⊎ ((t rest : List ℕ) × BeginsRows columns t lines × (s ≡ t ++ rest) × EndsInTuple (length columns) rest)

-- whether writing failed
abbrev pub is_write : CopyFault → Bool
is_write Write = true
is_write fault = false

-- why a COPY with these bytes stops with this fault after these lines; the faults of reading, writing and memory do not
-- depend on the bytes
abbrev pub StopsAfter : List Column → List ℕ → List ℕ → CopyFault → Type 0
StopsAfter columns s lines Read = Unit {0}
StopsAfter columns s lines Write = Unit {0}
StopsAfter columns s lines Memory = Unit {0}
StopsAfter columns s lines Truncated = IsTruncated columns s lines
StopsAfter columns s lines fault = Refused columns s lines fault
