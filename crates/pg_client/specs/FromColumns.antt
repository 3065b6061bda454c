-- Reading the columns of a row one after another, from one at an index to the last.
use Rattle.std.specs.Prelude.{◌≡◌, ◌==◌, ◌++◌, ◌⊎◌, ◌+◌, ◌-◌, ◌<◌, ◌^◌, ℕ, Bool, true, false, List, [], ◌∷◌, length, slice_get}
use Rattle.std.specs.Prelude.{Option, Some, None, Result, Ok, Err}
use Rattle.pg_base.specs.Cells.{Cell, Spells}
use Rattle.pg_types.specs.Content.{Content, content}
use Rattle.pg_types.specs.Faults.{Outcome, field_count, size}
use Rattle.pg_read.specs.FrameReading.{BeginsWithCells}
use Rattle.postgres_types.specs.declared.composite.fields.And.{And}
use Rattle.postgres_types.specs.declared.composite.fields.End.{End}
use Rattle.pg_client.specs.Places.{AnswersAt, RefusesAt, column_place}
use Rattle.pg_client.specs.Rows.{EndsRow, FreeAs, NoColumn, ReadsAs}
use Rattle.pg_client.specs.declared.column.Column.{Column}
use Rattle.pg_client.specs.declared.placed_fault.Place.{Place}
use Rattle.pg_client.specs.declared.placed_fault.Place.TheVariants.{Columns}
use Rattle.pg_client.specs.declared.placed_fault.PlacedFault.{PlacedFault}

-- what the columns from an index on, whose frames these are, are read as
abbrev pub ReadsColumns : Type 0 → Type 1
ReadsColumns A = List Column → ℕ → List ℕ → Result A PlacedFault → Type 0

-- the value of a column and those of the columns after it, or the first fault
abbrev pub BothAt : {A B : Type 0} → Place → (Outcome A → Type 0) → (Result B PlacedFault → Type 0)
    → Result (And A B) PlacedFault → Type 0
BothAt place first others (Ok v) = first (Ok v.0) × others (Ok v.1)
BothAt {A} place first others (Err f) =
    AnswersAt place first (Err f) ⊎ ((v : A) × first (Ok v) × others (Err f))

-- the same, where the cell of the column is the first of these; if there is none it is truncated, which is Size
abbrev pub CellThen : {A B : Type 0} → Place → (Cell → Outcome A → Type 0) → (List ℕ → Result B PlacedFault → Type 0)
    → List Cell → List ℕ → Result (And A B) PlacedFault → Type 0
CellThen place reads others [] rest result = RefusesAt place size result
CellThen place reads others (c ∷ cs) rest result = BothAt place (reads c) (others rest) result

-- the column at the index, which is there, and then those after it
abbrev pub ColumnThen : {A B : Type 0} → (Content → Bool) → (Content → Cell → Outcome A → Type 0) → ReadsColumns B
    → Option Column → ReadsColumns (And A B)
ColumnThen accepted reads others None columns n s result = NoColumn n result
ColumnThen accepted reads others (Some column) columns n s result =
    BeginsWithCells (λ cs rest. CellThen (column_place columns n) (ReadsAs (accepted (content column.ty))
    (content column.ty) (reads (content column.ty))) (others columns (n + 1)) cs rest result) s 1

abbrev pub ReadsAnd : {A B : Type 0} → (Content → Bool) → (Content → Cell → Outcome A → Type 0) → ReadsColumns B
    → ReadsColumns (And A B)
ReadsAnd accepted reads others columns n s result =
    ColumnThen accepted reads others (slice_get columns n) columns n s result

-- the column at the index is read without allocating, and so are those after it
abbrev pub FreeAnd : (Content → Bool) → (Cell → Type 0) → (List Column → ℕ → List ℕ → Type 0) → List Column → ℕ
    → List ℕ → Type 0
FreeAnd accepted free others columns n s =
    (front rest : List ℕ) (c : Cell) (column : Column) → slice_get columns n ≡ Some column → s ≡ front ++ rest
    → Spells front c
    → FreeAs (accepted (content column.ty)) (content column.ty) free c × others columns (n + 1) rest

-- the end of the row
abbrev pub ReadsEnd : ReadsColumns End
ReadsEnd columns n s (Ok v) = EndsRow columns n (length columns - n) s (Ok tt)
ReadsEnd columns n s (Err f) = EndsRow columns n (length columns - n) s (Err f)

-- a value that contains those of the columns
abbrev pub ThroughAt : {A B : Type 0} → (B → A) → (Result A PlacedFault → Type 0) → Result B PlacedFault → Type 0
ThroughAt inside reads (Ok v) = reads (Ok (inside v))
ThroughAt inside reads (Err f) = reads (Err f)

-- the same, where the value has as many columns as are left; another number is FieldCount
abbrev pub IfWidth : {A B : Type 0} → Bool → ℕ → ℕ → (B → A) → (Result A PlacedFault → Type 0) → Result B PlacedFault
    → Type 0
IfWidth true width left inside reads result = ThroughAt inside reads result
IfWidth false width left inside reads result =
    (expected : ℕ) × (width < 2 ^ 64 → expected ≡ width) × RefusesAt (Columns expected left) field_count result

abbrev pub ReadsRow : {A B : Type 0} → ℕ → (B → A) → ReadsColumns A → ReadsColumns B
ReadsRow width inside reads columns n s =
    let left = length columns - n in
    IfWidth (left == width) width left inside (reads columns n s)
