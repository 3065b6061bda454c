-- Rows: the body of a DataRow message ("Message Formats" in PostgreSQL's documentation), the number of columns in two
-- bytes and the frame of the cell of each column.
use Rattle.std.specs.Prelude.{◌≡◌, ◌≢◌, ◌⊎◌, ◌<◌, ◌≤◌, ◌+◌, ℕ, suc, pos, Bool, true, false, List, [], ◌∷◌, length, take}
use Rattle.std.specs.Prelude.{drop}
use Rattle.std.specs.Prelude.{Option, Some, None, Result, Ok, Err, codes, slice_get, ⊤}
use Rattle.std.specs.Int.{from_be_bytes, w16}
use Rattle.std.specs.List.{position}
use Rattle.std.specs.Str.{bytes_eq}
use Rattle.arrayvec.specs.ArrayString.{ArrayString}
use Rattle.pg_base.specs.Cells.{Cell, IsBe, SpellsAll, SpellsNone}
use Rattle.pg_types.specs.Content.{Content, IsBuiltIn}
use Rattle.pg_types.specs.Faults.{Outcome, field_count, size, user, wrong_type}
use Rattle.pg_read.specs.FrameReading.{BeginsWithCells}
use Rattle.postgres_types.specs.Records.{IsRefused}
use Rattle.pg_client.specs.Places.{AnswersAt, IsFaultAt, NeverMemoryAt, RefusesAt, column_place}
use Rattle.pg_client.specs.declared.column.Column.{Column}
use Rattle.pg_client.specs.declared.placed_fault.Place.{Place}
use Rattle.pg_client.specs.declared.placed_fault.Place.TheVariants as place
use Rattle.pg_client.specs.declared.placed_fault.PlacedFault.{PlacedFault}
use Rattle.pg_client.specs.declared.row.Row.{Row}

-- the columns of a row
abbrev pub columns_of : Row → List Column
columns_of row = row.columns.now

-- the frames of all its columns
abbrev pub frames_of : Row → List ℕ
frames_of row = row.frames.now

-- the number of columns that were taken
abbrev pub taken_of : Row → ℕ
taken_of row = row.taken

-- the frames after those columns
abbrev pub rest_of : Row → List ℕ
rest_of row = row.rest.now

-- the body begins with this number of columns, in two bytes
abbrev pub HasCount : ℕ → List ℕ → Type 0
HasCount n body = IsBe w16 (take 2 body) (pos n)

-- the number of columns, in two bytes
abbrev pub count_in : List ℕ → ℕ
count_in body = from_be_bytes w16 (take 2 body)

-- the fault if it does not: a truncated number is Size, and another one FieldCount
abbrev pub CountFault : ℕ → List ℕ → PlacedFault → Type 0
CountFault n body f =
    ((length body < 2) × IsFaultAt place.Row size f)
    ⊎ ((2 ≤ length body) × (HasCount n body → ⊥) × IsFaultAt (place.Columns n (count_in body)) field_count f)

-- a row of these columns, of which none was taken
abbrev pub IsUnread : List Column → Row → Type 0
IsUnread columns row = (columns_of row ≡ columns) × (taken_of row ≡ 0) × (rest_of row ≡ frames_of row)

-- the row of the body, of which no column was taken; or the number of its columns is refused
abbrev pub IsRowOf : List ℕ → List Column → Result Row PlacedFault → Type 0
IsRowOf body columns (Ok row) =
    HasCount (length columns) body × (frames_of row ≡ drop 2 body) × IsUnread columns row
IsRowOf body columns (Err f) = CountFault (length columns) body f

-- what a cell of a column is read as: WrongType if the Rust type does not accept the type of the column
abbrev pub ReadsAs : {A : Type 0} → Bool → Content → (Cell → Outcome A → Type 0) → Cell → Outcome A → Type 0
ReadsAs true ty reads c outcome = reads c outcome
ReadsAs false ty reads c outcome = IsRefused (wrong_type ty (codes "T")) outcome

-- whether that does not allocate: WrongType for a built-in type does not
abbrev pub FreeAs : Bool → Content → (Cell → Type 0) → Cell → Type 0
FreeAs true ty free c = free c
FreeAs false ty free c = IsBuiltIn ty

-- the cell of a column was read; or it is truncated, or one before it is, which is Size at that column
abbrev pub ReadsCell : {A : Type 0} → ℕ → List Column → (Cell → Outcome A → Type 0) → (Cell → Type 0) → Option Cell → ℕ
    → Result A PlacedFault → Type 0
ReadsCell n columns reads free (Some c) truncated result =
    AnswersAt (column_place columns n) (reads c) result × (free c → NeverMemoryAt result)
ReadsCell n columns reads free None truncated result = RefusesAt (column_place columns truncated) size result

-- the column at this index was read from the frames of all columns
abbrev pub ReadsColumn : {A : Type 0} → ℕ → List Column → (Cell → Outcome A → Type 0) → (Cell → Type 0) → List ℕ
    → Result A PlacedFault → Type 0
ReadsColumn n columns reads free s result =
    BeginsWithCells (λ cs rest. ReadsCell n columns reads free (slice_get cs n) (length cs) result) s (suc n)

-- the column whose frame begins the bytes was read; a truncated frame is Size
abbrev pub ReadsFront : {A : Type 0} → Place → (Cell → Outcome A → Type 0) → (Cell → Type 0) → List ℕ
    → Result A PlacedFault → Type 0
ReadsFront at reads free s result =
    ((c : Cell) × (rest : List ℕ) × SpellsAll s (c ∷ []) rest × AnswersAt at (reads c) result
    × (free c → NeverMemoryAt result))
    ⊎ (SpellsNone s × RefusesAt at size result)

-- there is no column at this index
abbrev pub NoColumn : {A : Type 0} → ℕ → Result A PlacedFault → Type 0
NoColumn n result = RefusesAt (place.Column n None) (user (codes "no such column")) result

-- the columns and their frames are the same; this number of columns was taken, and these bytes come after them
pub record StandsAt (taken : ℕ) (rest : List ℕ) (old new : Row) : Type 0 where
  pub columns : columns_of new ≡ columns_of old
  pub frames : frames_of new ≡ frames_of old
  pub taken_is : taken_of new ≡ taken
  pub rest_is : rest_of new ≡ rest

-- the next column was read, and is taken then, whatever the result; or it is truncated, and the row is unchanged
abbrev pub ReadsNextCell : {A : Type 0} → (Cell → Outcome A → Type 0) → (Cell → Type 0) → Row → List Cell → List ℕ
    → Result A PlacedFault → Row → Type 0
ReadsNextCell reads free old [] rest result new =
    RefusesAt (column_place (columns_of old) (taken_of old)) size result × StandsAt (taken_of old) (rest_of old) old new
ReadsNextCell reads free old (c ∷ cs) rest result new =
    AnswersAt (column_place (columns_of old) (taken_of old)) (reads c) result × (free c → NeverMemoryAt result)
    × StandsAt (taken_of old + 1) rest old new

abbrev pub ReadsNext : {A : Type 0} → (Cell → Outcome A → Type 0) → (Cell → Type 0) → Row → Result A PlacedFault → Row
    → Type 0
ReadsNext reads free old result new =
    BeginsWithCells (λ cs rest. ReadsNextCell reads free old cs rest result new) (rest_of old) 1

-- whether a column has this name
abbrev pub is_name : List ℕ → Option ArrayString → Bool
is_name name None = false
is_name name (Some own) = bytes_eq own.bytes name

abbrev pub has_name : List ℕ → Column → Bool
has_name name column = is_name name column.name

-- the index of the first column with this name
abbrev pub place_named : List ℕ → List Column → Option ℕ
place_named name = position (has_name name)

-- n cells were skipped; or the one after the first k is truncated
abbrev pub PassesCells : ℕ → List ℕ → Result ⊤ ℕ → List ℕ → Type 0
PassesCells n old (Ok done) new = (cs : List Cell) × (length cs ≡ n) × SpellsAll old cs new
PassesCells n old (Err k) new =
    (cs : List Cell) × (length cs ≡ k) × (k < n) × SpellsAll old cs new × SpellsNone new

-- why the columns from the first on, of which these cells are complete, do not end the row: the next one is truncated,
-- or bytes trail the last one
abbrev pub EndFault : List Column → ℕ → ℕ → List Cell → List ℕ → PlacedFault → Type 0
EndFault columns first n cs rest f =
    ((length cs < n) × SpellsNone rest × IsFaultAt (column_place columns (first + length cs)) size f)
    ⊎ ((length cs ≡ n) × (rest ≢ []) × IsFaultAt place.Row size f)

-- the bytes are the frames of n columns, the first of which is at index `first`; or this is why they are not
abbrev pub EndsRow : List Column → ℕ → ℕ → List ℕ → Result ⊤ PlacedFault → Type 0
EndsRow columns first n s (Ok done) = (cs : List Cell) × (length cs ≡ n) × SpellsAll s cs []
EndsRow columns first n s (Err f) =
    (cs : List Cell) × (rest : List ℕ) × SpellsAll s cs rest × EndFault columns first n cs rest f
