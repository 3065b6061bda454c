-- Reading the rows of a binary COPY ("Binary Format" in the documentation of the command COPY).
use Rattle.std.specs.Prelude.{◌≡◌, ◌≢◌, ◌⊎◌, ◌+◌, ℕ, List, [], ◌∷◌, ◌++◌, length, Option, Some, None}
use Rattle.std.specs.Borrow.{Bor}
use Rattle.pg_base.specs.Cells.{Cell, frames}
use Rattle.pg_client.specs.Rows.{IsUnread, frames_of}
use Rattle.pg_client.specs.declared.column.Column.{Column}
use Rattle.pg_client.specs.declared.copy_rows.CopyFault.{CopyFault}
use Rattle.pg_client.specs.declared.copy_rows.CopyFault.TheVariants.{Header, TruncatedHeader, Tuple, Truncated}
use Rattle.pg_client.specs.declared.copy_rows.CopyFault.TheVariants.{Trailing}
use Rattle.pg_client.specs.declared.copy_rows.CopyRows.{CopyRows}
use Rattle.pg_client.specs.declared.row.Row.{Row}
use Rattle.pg_tuples.specs.Reading.{EndsInExtension, EndsInHeader, EndsInTuple}
use Rattle.pg_tuples.specs.Refusals.{RefusesHeader, RefusesTupleOf}
use Rattle.pg_tuples.specs.Tuples.{BeginsCopy, IsCopy, trailer}

-- the columns of the rows
abbrev pub columns_in : CopyRows → List Column
columns_in copy = copy.columns.now

-- the rest of the bytes: the tuples to come, and the trailer
abbrev pub left_of : CopyRows → List ℕ
left_of copy = copy.rest.now

-- the number of rows that were returned
abbrev pub count_of : CopyRows → ℕ
count_of copy = copy.count

-- a header and the tuples of these rows were taken from these bytes
abbrev pub HasRead : List ℕ → List (List Cell) → CopyRows → Type 0
HasRead bytes rows copy =
    (t : List ℕ) × BeginsCopy rows t × (bytes ≡ t ++ left_of copy) × (count_of copy ≡ length rows)

-- the row of these cells, one for each column, of which none was taken
abbrev pub IsRowOfCells : List Column → List Cell → Row → Type 0
IsRowOfCells columns cells row =
    (length cells ≡ length columns) × (frames cells ≡ Some (frames_of row)) × IsUnread columns row

-- after these rows the next one was taken; or there is none, and the bytes are the COPY of these rows
abbrev pub ReadsNext : List ℕ → List (List Cell) → Option Row → CopyRows → Type 0
ReadsNext bytes rows (Some row) copy =
    (cells : List Cell) × IsRowOfCells (columns_in copy) cells row × HasRead bytes (rows ++ cells ∷ []) copy
ReadsNext bytes rows None copy = IsCopy rows bytes × HasRead bytes rows copy

-- nothing was taken
abbrev pub NoneTaken : CopyRows → CopyRows → Type 0
NoneTaken old new = (left_of new ≡ left_of old) × (count_of new ≡ count_of old)

-- the bytes end in the header of a COPY, or in its extension
abbrev pub EndsInStart : List ℕ → Type 0
EndsInStart bytes = EndsInHeader bytes ⊎ EndsInExtension bytes

-- after a header and its extension come these bytes; or the bytes end before that
abbrev pub AfterHeader : List ℕ → Option (Bor (List ℕ)) → Type 0
AfterHeader bytes None = EndsInStart bytes
AfterHeader bytes (Some rest) = (t : List ℕ) × BeginsCopy [] t × (bytes ≡ t ++ rest.now)

-- the header is refused with this fault
abbrev pub RefusesHeaderAs : List ℕ → CopyFault → Type 0
RefusesHeaderAs bytes (Header fault) = RefusesHeader bytes fault
RefusesHeaderAs bytes fault = ⊥

-- the same, or the header is truncated
abbrev pub RefusesStart : List ℕ → CopyFault → Type 0
RefusesStart bytes TruncatedHeader = EndsInStart bytes
RefusesStart bytes fault = RefusesHeaderAs bytes fault

-- the rest is refused with this fault, which names the next row
abbrev pub RefusesNext : CopyRows → CopyFault → Type 0
RefusesNext copy (Tuple row fault) =
    (row ≡ count_of copy + 1) × RefusesTupleOf (length (columns_in copy)) (left_of copy) fault
RefusesNext copy (Truncated row) =
    (row ≡ count_of copy + 1) × EndsInTuple (length (columns_in copy)) (left_of copy)
RefusesNext copy Trailing = (after : List ℕ) × (left_of copy ≡ trailer ++ after) × (after ≢ [])
RefusesNext copy fault = ⊥
