-- Reading the rows of a binary COPY whose bytes come in parts.
use Rattle.std.specs.Prelude.{◌≡◌, ◌≢◌, ◌+◌, ◌-◌, ◌^◌, ◌++◌, ℕ, List, [], ◌∷◌, length, Option, Some, None, Result, Ok, Err, min}
use Rattle.pg_base.specs.Cells.{Cell}
use Rattle.pg_tuples.specs.Reading.{EndsInTuple}
use Rattle.pg_tuples.specs.Refusals.{RefusesTupleOf}
use Rattle.pg_tuples.specs.Tuples.{BeginsCopy, IsCopy}
use Rattle.pg_client.specs.CopyReading.{EndsInStart, IsRowOfCells, RefusesHeaderAs}
use Rattle.pg_client.specs.declared.column.Column.{Column}
use Rattle.pg_client.specs.declared.copy_parts.CopyParts.{CopyParts as Parts}
use Rattle.pg_client.specs.declared.copy_parts.Stage.{Stage}
use Rattle.pg_client.specs.declared.copy_parts.Stage.TheVariants.{End, Header, Tuples}
use Rattle.pg_client.specs.declared.copy_rows.CopyFault.{CopyFault}
use Rattle.pg_client.specs.declared.copy_rows.CopyFault.TheVariants.{Trailing, Truncated, TruncatedHeader, Tuple}
use Rattle.pg_client.specs.declared.row.Row.{Row}

-- the columns of the rows
abbrev pub columns_in : Parts → List Column
columns_in parts = parts.columns.now

-- how much was taken
abbrev pub stage_of : Parts → Stage
stage_of parts = parts.stage

-- the number of rows that were returned
abbrev pub count_of : Parts → ℕ
count_of parts = parts.count

-- the number that says that there were so many rows
abbrev pub row_count : ℕ → ℕ
row_count rows = min rows (2 ^ 64 - 1)

-- these bytes are what was taken of a COPY of these rows
abbrev pub IsTaken : Stage → List (List Cell) → List ℕ → Type 0
IsTaken Header rows taken = (rows ≡ []) × (taken ≡ [])
IsTaken Tuples rows taken = BeginsCopy rows taken
IsTaken End rows taken = IsCopy rows taken

abbrev pub HasTaken : List ℕ → List (List Cell) → Parts → Type 0
HasTaken taken rows parts = IsTaken (stage_of parts) rows taken × (count_of parts ≡ row_count (length rows))

-- more bytes are awaited: these are truncated
abbrev pub Awaits : Stage → ℕ → List ℕ → Type 0
Awaits Header n s = EndsInStart s
Awaits Tuples n s = EndsInTuple n s
Awaits End n s = s ≡ []

-- why the bytes are refused
abbrev pub RefusesTuple : ℕ → ℕ → List ℕ → CopyFault → Type 0
RefusesTuple count n s (Tuple row fault) = (row ≡ row_count (count + 1)) × RefusesTupleOf n s fault
RefusesTuple count n s fault = ⊥

abbrev pub Refuses : Stage → ℕ → ℕ → List ℕ → CopyFault → Type 0
Refuses Header count n s fault = RefusesHeaderAs s fault
Refuses Tuples count n s fault = RefusesTuple count n s fault
Refuses End count n s fault = (fault ≡ Trailing) × (s ≢ [])

-- what is done after bytes were taken: the row of the cells follows; or more bytes are awaited, or refused
abbrev pub Gives : List ℕ → List (List Cell) → List ℕ → Result (Option Row) CopyFault → Parts → Type 0
Gives taken rows s (Ok (Some row)) parts =
    (cells : List Cell) × IsRowOfCells (columns_in parts) cells row × HasTaken taken (rows ++ cells ∷ []) parts
Gives taken rows s (Ok None) parts =
    HasTaken taken rows parts × Awaits (stage_of parts) (length (columns_in parts)) s
Gives taken rows s (Err fault) parts =
    HasTaken taken rows parts × Refuses (stage_of parts) (count_of parts) (length (columns_in parts)) s fault

abbrev pub ReadsNext : List ℕ → List (List Cell) → List ℕ → Result (Option Row) CopyFault → List ℕ → Parts → Type 0
ReadsNext taken rows old result new parts =
    (front : List ℕ) × (old ≡ front ++ new) × Gives (taken ++ front) rows new result parts

-- the bytes that were taken are the COPY of the rows; or the next one, or the header, is truncated
abbrev pub EndsCopy : List ℕ → List (List Cell) → Result ℕ CopyFault → Type 0
EndsCopy taken rows (Ok n) = IsCopy rows taken × (n ≡ row_count (length rows))
EndsCopy taken rows (Err TruncatedHeader) = (rows ≡ []) × (taken ≡ [])
EndsCopy taken rows (Err (Truncated row)) = BeginsCopy rows taken × (row ≡ row_count (length rows + 1))
EndsCopy taken rows (Err fault) = ⊥
