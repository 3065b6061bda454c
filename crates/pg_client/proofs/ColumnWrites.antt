-- The steps of writing values one after another.
use Rattle.std.proofs.Common.{◌≡◌, ◌++◌, ℕ, List, [], ◌∷◌, Ok, Err, Result, inl, inr}
use Rattle.std.specs.Prelude.{⊤}
use Rattle.pg_base.specs.Appending.{Wire}
use Rattle.pg_base.specs.Cells.{Cell}
use Rattle.pg_types.specs.declared.types.PgType.{PgType}
use Rattle.pg_client.specs.RowWriting.{EndsRow, Writes}
use Rattle.pg_client.specs.ToColumns.{ByType, InTurn, RefusesValue, WritesEach, WritesRow}
use Rattle.pg_client.specs.declared.placed_fault.PlacedFault.{PlacedFault}
use Rattle.pg_client.specs.declared.row_writer.RowWriter.{RowWriter}
use Rattle.pg_client.specs.declared.row_writer.Target.{Target}

-- what ends them, or refuses one, means something else
in_turn_maps : (ws : List ByType) (types : List PgType) (ends ends2 : List Cell → Type 0)
    (refuses refuses2 : List Cell → Wire → Type 0) → ((all : List Cell) → ends all → ends2 all)
    → ((all : List Cell) (w : Wire) → refuses all w → refuses2 all w) → (cells : List Cell)
    → InTurn ws types ends refuses cells → InTurn ws types ends2 refuses2 cells
in_turn_maps [] types ends ends2 refuses refuses2 e r cells h = e cells h
in_turn_maps (w ∷ ws) types ends ends2 refuses refuses2 e r cells h = elim h [
  | inl p ↦ inl (p.0, p.1, in_turn_maps ws types ends ends2 refuses refuses2 e r (cells ++ p.0 ∷ []) p.2)
  | inr q ↦ inr (r cells _ q)
]

module _ (ws : List ByType) (target : Target) (types : List PgType) (before : List ℕ) (cells : List Cell)
    (row : RowWriter) (items : List ℕ) where
  -- how pushing the values ended
  abbrev Pushed : Result ⊤ PlacedFault → List Cell → Type 0
  Pushed pushed all = (pushed ≡ Ok tt) × Writes target types before all row

  -- or a value was refused
  abbrev Stopped : Result ⊤ PlacedFault → List Cell → Wire → Type 0
  Stopped pushed all w = RefusesValue target all w pushed × Writes target types before all row

  -- all values were written, and the row ended
  pub row_written : (result : Result ⊤ PlacedFault) (done : ⊤)
      → ((all : List Cell) → Writes target types before all row → EndsRow target types before all items result)
      → WritesEach ws target types before cells row (Ok done) → WritesRow ws target types before cells items result
  row_written result done ends h =
      in_turn_maps ws types (Pushed (Ok done)) (λ all. EndsRow target types before all items result)
      (Stopped (Ok done)) (λ all w. RefusesValue target all w result × (items ≡ before))
      (λ all e. ends all e.1) (λ all w r. absurd r.0) cells h

  -- a value is refused, and the row is cancelled
  pub row_refused : (f : PlacedFault)
      → ((all : List Cell) → Writes target types before all row → items ≡ before)
      → WritesEach ws target types before cells row (Err f) → WritesRow ws target types before cells items (Err f)
  row_refused f cancels h =
      in_turn_maps ws types (Pushed (Err f)) (λ all. EndsRow target types before all items (Err f))
      (Stopped (Err f)) (λ all w. RefusesValue target all w (Err f) × (items ≡ before))
      (λ all e. let is = e.0 in let no : ⊥ = cc in absurd no) (λ all w r. (r.0, cancels all r.1)) cells h
