-- The binary COPY that is written for lines.
use Rattle.std.specs.Prelude.{◌≡◌, ◌≢◌, ◌⊎◌, ◌<◌, ◌≤◌, ◌-◌, ◌^◌, min, ℕ, Bool, true, false, pos, List, [], ◌∷◌, ◌++◌, length}
use Rattle.std.specs.Prelude.{Option, Some}
use Rattle.std.specs.Io.KnownBytes.{Keeps}
use Rattle.pg_base.specs.Cells.{Cell, frame}
use Rattle.streams.specs.Answers.{Answered, LinesAre, IsDone}
use Rattle.streams.specs.Lines.{IsOneLine}
use Rattle.streams.specs.declared.lines.RunFault.{RunFault}
use Rattle.streams.specs.declared.lines.RunFault.TheVariants as run
use Rattle.pg_copy.specs.Outputs.{EndsIn, WritesWhole, WritesPart}
use Rattle.pg_copy.specs.TextLines.{Says, fields_of}
use Rattle.pg_copy.specs.Values.{TextValues, in_form, values_of}
use Rattle.pg_copy.specs.WrittenCells.{CellAs, FrameAs}
use Rattle.pg_copy.specs.WrittenComposites.{composite_texts}
use Rattle.postgres_types.specs.Content.{content}
use Rattle.pg_tuples.specs.Tuples.{header, trailer, tuple}
use Rattle.pg_copy.specs.declared.columns.Column.{Column}
use Rattle.pg_copy.specs.declared.columns.Field.{Field}
use Rattle.pg_copy.specs.declared.types.Base.{Base}
use Rattle.pg_copy.specs.declared.copy_fault.CopyFault.{CopyFault}
use Rattle.pg_copy.specs.declared.copy_fault.CopyFault.TheVariants.{Read, Write, Memory, TooManyColumns}
use Rattle.pg_copy.specs.declared.copy_fault.CopyFault.TheVariants.{Columns, Value}

-- the values of texts: of a composite type if there are fields
abbrev pub texts_with : List Field → Base → TextValues × TextValues
texts_with [] base = (values_of base).1
texts_with (field ∷ fields) base = composite_texts (field ∷ fields)

abbrev pub texts_in : Column → TextValues
texts_in column = in_form column.is_array (texts_with column.fields.items column.base)

-- the cell of a text in a column
abbrev pub CellOf : Column → Option (List ℕ) → Cell → Type 0
CellOf column = CellAs (texts_in column) (content column.ty)

-- the frame of the text's cell
abbrev pub FrameOf : Column → Option (List ℕ) → List ℕ → Type 0
FrameOf column = FrameAs (texts_in column) (content column.ty)

-- the cell of a field in a column
abbrev pub FieldCell : Column → List ℕ → Cell → Type 0
FieldCell column field cell = (text : Option (List ℕ)) × Says field text × CellOf column text cell

-- the frame of the field's cell
abbrev pub FieldFrame : Column → List ℕ → List ℕ → Type 0
FieldFrame column field bytes = (cell : Cell) × FieldCell column field cell × (frame cell ≡ Some bytes)

-- the cells of fields in columns, in the same number
abbrev pub FieldCells : List Column → List (List ℕ) → List Cell → Type 0
FieldCells [] [] cells = cells ≡ []
FieldCells [] (field ∷ fields) cells = ⊥
FieldCells (column ∷ columns) [] cells = ⊥
FieldCells (column ∷ columns) (field ∷ fields) [] = ⊥
FieldCells (column ∷ columns) (field ∷ fields) (cell ∷ cells) =
    FieldCell column field cell × FieldCells columns fields cells

-- the tuple of a line: that of the cells of its fields
abbrev pub TupleOf : List Column → List ℕ → List ℕ → Type 0
TupleOf columns line bytes =
    (cells : List Cell) × FieldCells columns (fields_of line) cells × (tuple cells ≡ Some bytes)

-- the header and the tuple of each line, in order
abbrev pub BeginsCopy : List Column → List (List ℕ) → List ℕ → Type 0
BeginsCopy columns lines bytes =
    (tuples : List ℕ) × Answered (TupleOf columns) lines tuples × (bytes ≡ header ++ tuples)

-- the binary COPY of lines: the header, the tuple of each line, in order, and the trailer
abbrev pub CopyOf : List Column → List (List ℕ) → List ℕ → Type 0
CopyOf columns lines bytes =
    (begun : List ℕ) × BeginsCopy columns lines begun × (bytes ≡ begun ++ trailer)

-- -32768 instead of a number of columns
abbrev pub stopped : List ℕ
stopped = 128 ∷ 0 ∷ []

-- what a fault leaves of the binary COPY of these lines: the header, the tuple of each line, in order, and a number of
-- columns that no row has
abbrev pub StoppedCopyOf : List Column → List (List ℕ) → List ℕ → Type 0
StoppedCopyOf columns lines = EndsIn (BeginsCopy columns lines) (λ end. end ≡ stopped)

-- the fault of a line with another number of fields than columns; its number of fields is limited to what fits in 64
-- bits, signed
abbrev pub CountFault : ℕ → ℕ → CopyFault → Type 0
CountFault columns fields (Columns row expected got) =
    (expected ≡ columns) × (got ≡ pos (min fields (2 ^ 63 - 1)))
CountFault columns fields fault = ⊥

-- the fault of a value in the column with this number, or out of memory
abbrev pub ValueFault : ℕ → CopyFault → Type 0
ValueFault column Memory = Unit {0}
ValueFault column (Value row at base is_array fault) = at ≡ column
ValueFault column fault = ⊥

-- the line has no tuple, with this fault: it has another number of fields than there are columns, the field of a column
-- has no value, or memory ran out
abbrev pub LineFault : List Column → List ℕ → CopyFault → Type 0
LineFault columns line Memory = Unit {0}
LineFault columns line (Columns row expected got) =
    CountFault (length columns) (length (fields_of line)) (Columns row expected got)
    × (length (fields_of line) ≢ length columns)
LineFault columns line (Value row column base is_array fault) =
    (0 < column) × (column ≤ length columns) × (column ≤ length (fields_of line))
LineFault columns line fault = ⊥

-- what is written if a COPY stops with a fault: the bytes that are left of some first lines, those before the line that
-- is refused. If reading failed, these are the lines that end in what the reader gave; a write that failed leaves a
-- prefix; and more columns than fit in two bytes leave nothing
abbrev pub StopsWith : (List (List ℕ) → List ℕ → Type 0) → List Column → Option (List ℕ) → Option (List ℕ)
    → Option (List ℕ) → Option (List ℕ) → CopyFault → Type 0
StopsWith IsLeft columns input left old new TooManyColumns = (2 ^ 15 ≤ length columns) × Keeps old new
StopsWith IsLeft columns input left old new Read =
    (line : List ℕ) × IsOneLine line × (done : List (List ℕ)) × IsDone input left line done
    × WritesWhole (IsLeft done) old new
StopsWith IsLeft columns input left old new Write =
    (done rest : List (List ℕ)) × LinesAre input (done ++ rest)
    × (WritesPart (CopyOf columns done) old new ⊎ WritesPart (IsLeft done) old new)
StopsWith IsLeft columns input left old new Memory =
    (done rest : List (List ℕ)) × LinesAre input (done ++ rest) × WritesWhole (IsLeft done) old new
StopsWith IsLeft columns input left old new fault =
    (done : List (List ℕ)) × (line : List ℕ) × (rest : List (List ℕ)) × LinesAre input (done ++ line ∷ rest)
    × WritesWhole (IsLeft done) old new × LineFault columns line fault

-- whether nothing was written before the fault, or nothing can be written after it
abbrev pub is_last : CopyFault → Bool
is_last TooManyColumns = true
is_last Write = true
is_last fault = false

-- a fault leaves what no server reads as a COPY
abbrev pub Stops : List Column → Option (List ℕ) → Option (List ℕ) → Option (List ℕ) → Option (List ℕ) → CopyFault
    → Type 0
Stops columns = StopsWith (StoppedCopyOf columns) columns

-- the fault of a run over lines
abbrev pub fault_of : RunFault CopyFault → CopyFault
fault_of run.Read = Read
fault_of run.Write = Write
fault_of (run.Refused fault) = fault
