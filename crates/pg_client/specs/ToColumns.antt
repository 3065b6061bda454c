-- Writing the values of a row one after another, each for the type at its place.
use Rattle.std.specs.Prelude.{◌≡◌, ◌++◌, ◌⊎◌, ℕ, List, [], ◌∷◌, length, slice_get, Option, Result, Ok, Err, IfSome, ⊤}
use Rattle.pg_base.specs.Appending.{Wire}
use Rattle.pg_base.specs.Cells.{Cell}
use Rattle.pg_types.specs.Faults.{refusal_of}
use Rattle.pg_types.specs.declared.types.PgType.{PgType}
use Rattle.postgres_types.specs.ArrayWriting.{element_frame_cell}
use Rattle.pg_client.specs.RowWriting.{EndsRow, Writes, value_place}
use Rattle.pg_client.specs.declared.placed_fault.PlacedFault.{PlacedFault}
use Rattle.pg_client.specs.declared.row_writer.RowWriter.{RowWriter}
use Rattle.pg_client.specs.declared.row_writer.Target.{Target}

-- what a value is written as, by the type at its place
abbrev pub ByType : Type 0
ByType = Option PgType → Wire

-- the values are written one after another after these cells, and that ends so; or the first that is refused ends it
abbrev pub InTurn : List ByType → List PgType → (List Cell → Type 0) → (List Cell → Wire → Type 0) → List Cell → Type 0
InTurn [] types ends refuses cells = ends cells
InTurn (w ∷ ws) types ends refuses cells =
    ((c : Cell) × (w (slice_get types (length cells)) ≡ Ok c) × InTurn ws types ends refuses (cells ++ c ∷ []))
    ⊎ refuses cells (w (slice_get types (length cells)))

-- the value after these cells is refused at its place, unless memory ran out
abbrev pub RefusesValue : Target → List Cell → Wire → Result ⊤ PlacedFault → Type 0
RefusesValue target cells w (Ok done) = ⊥
RefusesValue target cells w (Err f) =
    (f.place ≡ value_place target (length cells)) × IfSome (refusal_of f.fault) (λ r. element_frame_cell w ≡ Err r)

-- the cells of the values follow these; or one of them is refused, and those before it follow them
abbrev pub WritesEach : List ByType → Target → List PgType → List ℕ → List Cell → RowWriter → Result ⊤ PlacedFault → Type 0
WritesEach ws target types before cells row result =
    InTurn ws types (λ all. (result ≡ Ok tt) × Writes target types before all row)
    (λ all w. RefusesValue target all w result × Writes target types before all row) cells

-- the row of these cells and of those of the values follows the bytes before; or it is refused, and the bytes are those
abbrev pub WritesRow : List ByType → Target → List PgType → List ℕ → List Cell → List ℕ → Result ⊤ PlacedFault → Type 0
WritesRow ws target types before cells items result =
    InTurn ws types (λ all. EndsRow target types before all items result)
    (λ all w. RefusesValue target all w result × (items ≡ before)) cells
