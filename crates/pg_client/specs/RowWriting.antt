-- Writing the values of a row, each for the type at its place: the parameters of a Bind message, or a tuple of a COPY.
use Rattle.std.specs.Prelude.{◌≡◌, ◌≢◌, ◌⊎◌, ◌++◌, ℕ, Bool, List, [], ◌∷◌, length, Option, Some, None}
use Rattle.std.specs.Prelude.{Result, Ok, Err, IfSome, if◌then◌else◌, nat_lt, ⊤}
use Rattle.std.specs.Borrow.{Fml, MutBor, RestsIfErr}
use Rattle.std.specs.Int.{to_be_bytes, w16}
use Rattle.std.specs.contracts.alloc.Global as global
use Rattle.std.specs.contracts.impls.GlobalAllocator.TheImpl.{ghosts}
use Rattle.bytes.specs.contracts.unique.BytesMut as buffer
use Rattle.bytes.specs.Filled.{Filled}
use Rattle.pg_base.specs.Appending.{Wire}
use Rattle.pg_base.specs.Cells.{Cell, frames}
use Rattle.pg_tuples.specs.Tuples.{column_count, tuple}
use Rattle.pg_types.specs.Content.{Content, content}
use Rattle.pg_types.specs.Faults.{field_count, refusal_of}
use Rattle.pg_types.specs.declared.format.Format.{Format}
use Rattle.pg_types.specs.declared.types.PgType.{PgType}
use Rattle.postgres_types.specs.Records.{or_transmit}
use Rattle.postgres_types.specs.Writing.{checked}
use Rattle.pg_client.specs.BindBytes.{all_binary, bind_bytes}
use Rattle.pg_client.specs.Binding.{in_binary}
use Rattle.pg_client.specs.Places.{IsFaultAt}
use Rattle.pg_client.specs.declared.placed_fault.Place.{Place}
use Rattle.pg_client.specs.declared.placed_fault.Place.TheVariants as place
use Rattle.pg_client.specs.declared.placed_fault.PlacedFault.{PlacedFault}
use Rattle.pg_client.specs.declared.row_writer.RowWriter.{RowWriter}
use Rattle.pg_client.specs.declared.row_writer.Target.{Target}
use Rattle.pg_client.specs.declared.row_writer.Target.TheVariants.{Bind, Tuple}

-- the buffer, to which values are appended
abbrev pub out_of : RowWriter → MutBor Filled
out_of row = row.out

-- the types of the values
abbrev pub types_of : RowWriter → List PgType
types_of row = row.types.now

-- what the values are
abbrev pub target_of : RowWriter → Target
target_of row = row.target

-- the number of values that were pushed
abbrev pub count_of : RowWriter → ℕ
count_of row = row.count

-- if a row is refused at its start, its buffer keeps its bytes
abbrev pub keeps_if_refused : MutBor Filled → Result RowWriter PlacedFault → Fml
keeps_if_refused out r = RestsIfErr (buffer.the_row global.the_row ghosts) out (λ row. (out_of row).ghost_name) r
    (λ last. last.items ≡ out.now.items)

-- what precedes so many values: a Bind message has at most 65,535 parameters, and a tuple 32,767 columns
abbrev pub head_of : Target → ℕ → Option (List ℕ)
head_of Bind n = if nat_lt n 65536 then Some (all_binary ++ to_be_bytes w16 n) else None
head_of Tuple n = column_count n

-- what follows them
abbrev pub foot_of : Target → List ℕ
foot_of Bind = all_binary
foot_of Tuple = []

-- the bytes of the row of these cells
abbrev pub row_bytes : Target → List Cell → Option (List ℕ)
row_bytes Bind cells = bind_bytes cells
row_bytes Tuple cells = tuple cells

-- the place of the value at an index, and of the row as a whole
abbrev pub value_place : Target → ℕ → Place
value_place Bind n = place.Parameter n
value_place Tuple n = place.Column n None

abbrev pub whole_place : Target → Place
whole_place Bind = place.Bind
whole_place Tuple = place.Row

-- the place of the number of values
abbrev pub count_place : Target → ℕ → ℕ → Place
count_place Bind expected got = place.Parameters expected got
count_place Tuple expected got = place.Columns expected got

-- what a value is written as for the type at its place; one too many is FieldCount
abbrev pub value_wire : {A : Type 0} → (Content → Bool) → List ℕ → (Content → A → Wire) → (Content → A → Format)
    → Option PgType → A → Wire
value_wire accepted name wire format None v = Err field_count
value_wire accepted name wire format (Some ty) v =
    in_binary (format (content ty) v) (checked accepted name wire (content ty) v)

-- what the buffer has while a row is written, after the bytes before: the head, and the frames of these cells
pub record WritesIn (target : Target) (types : List PgType) (before : List ℕ) (cells : List Cell) (items : List ℕ)
    (start count : ℕ) : Type 0 where
  -- the head
  pub head : List ℕ
  pub head_is : head_of target (length types) ≡ Some head
  -- the frames
  pub bytes : List ℕ
  pub frames_are : frames cells ≡ Some bytes
  pub items_are : items ≡ (before ++ head) ++ bytes
  pub start_is : start ≡ length before
  pub count_is : count ≡ length cells

-- a row of this kind, with these types and cells, is written
pub record Writes (target : Target) (types : List PgType) (before : List ℕ) (cells : List Cell) (row : RowWriter)
    : Type 0 where
  pub target_is : target_of row ≡ target
  pub types_are : types_of row ≡ types
  pub has : WritesIn target types before cells (out_of row).now.items row.start (count_of row)

-- the cell that was written follows the others; if it is refused, they are as they were
abbrev pub WritesMore : Wire → Target → List PgType → List ℕ → List Cell → RowWriter → Result ⊤ PlacedFault → Type 0
WritesMore w target types before cells row (Ok done) =
    (c : Cell) × (w ≡ Ok c) × Writes target types before (cells ++ c ∷ []) row
WritesMore w target types before cells row (Err f) = Writes target types before cells row

-- why a row of n values cannot start: these are too many, unless memory ran out
abbrev pub StartFault : Target → ℕ → PlacedFault → Type 0
StartFault target n f =
    (f.place ≡ whole_place target) × IfSome (refusal_of f.fault) (λ r. or_transmit (head_of target n) ≡ Err r)

-- why the row of the cells does not end: values are missing, or memory ran out
abbrev pub EndFault : Target → List PgType → List Cell → PlacedFault → Type 0
EndFault target types cells f =
    ((length cells ≢ length types) × IsFaultAt (count_place target (length types) (length cells)) field_count f)
    ⊎ ((f.place ≡ whole_place target) × (refusal_of f.fault ≡ None))

-- the row of the cells, one for each type, follows the bytes before; or values are missing, or memory ran out, and the
-- bytes are those before
abbrev pub EndsRow : Target → List PgType → List ℕ → List Cell → List ℕ → Result ⊤ PlacedFault → Type 0
EndsRow target types before cells items (Ok done) =
    (length cells ≡ length types) × (b : List ℕ) × (row_bytes target cells ≡ Some b) × (items ≡ before ++ b)
EndsRow target types before cells items (Err f) = (items ≡ before) × EndFault target types cells f
