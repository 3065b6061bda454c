-- The steps of reading columns one after another.
use Rattle.std.proofs.Common.{◌≡◌, ◌+◌, ℕ, List, [], ◌∷◌, Option, Some, None, Result, Ok, Err, IfNone, IfSome, inl, inr, subst}
use Rattle.std.proofs.Common.{ap, arith, slice_get, sym, ◌∙◌}
use Rattle.std.specs.Prelude.{Bool, IsSome, is_some}
use Rattle.pg_base.specs.Cells.{Cell, CellsInRow}
use Rattle.pg_types.specs.Content.{Content, content}
use Rattle.pg_types.specs.Faults.{Outcome, refusal_of}
use Rattle.postgres_types.specs.CompositeFields.{and}
use Rattle.pg_client.specs.FromColumns.{CellThen, ColumnThen, FreeAnd, ReadsColumns}
use Rattle.pg_client.specs.Places.{column_place}
use Rattle.pg_client.specs.Rows.{FreeAs, NoColumn, ReadsAs, ReadsNext, ReadsNextCell, StandsAt, columns_of, rest_of}
use Rattle.pg_client.specs.Rows.{taken_of}
use Rattle.pg_client.specs.declared.column.Column.{Column}
use Rattle.pg_client.specs.declared.placed_fault.PlacedFault.{PlacedFault}
use Rattle.pg_client.specs.declared.row.Row.{Row}

module _ {B : Type 0} (others : ReadsColumns B) (old new : Row) where
  -- what the others are, read from the row after the column
  at_next : (rest : List ℕ) (r : Result B PlacedFault) → StandsAt (taken_of old + 1) rest old new
      → others (columns_of new) (taken_of new) (rest_of new) r → others (columns_of old) (taken_of old + 1) rest r
  at_next rest r stands h =
      subst (λ x. others x (taken_of old + 1) rest r) stands.columns
      (subst (λ x. others (columns_of new) x rest r) stands.taken_is
      (subst (λ x. others (columns_of new) (taken_of new) x r) stands.rest_is h))

  module _ {A : Type 0} (reads : Cell → Outcome A → Type 0) (free : Cell → Type 0) where
    cell_refused : (cs : List Cell) (rest : List ℕ) (f : PlacedFault)
        → ReadsNextCell reads free old cs rest (Err f) new
        → CellThen (column_place (columns_of old) (taken_of old)) reads (others (columns_of old) (taken_of old + 1))
        cs rest (Err f)
    cell_refused [] rest f h = h.0
    cell_refused (c ∷ cs) rest f h = inl h.0

    others_refused : (cs : List Cell) (rest : List ℕ) (v : A) (f : PlacedFault)
        → ReadsNextCell reads free old cs rest (Ok v) new
        → others (columns_of new) (taken_of new) (rest_of new) (Err f)
        → CellThen (column_place (columns_of old) (taken_of old)) reads (others (columns_of old) (taken_of old + 1))
        cs rest (Err f)
    others_refused [] rest v f h refused = absurd h.0
    others_refused (c ∷ cs) rest v f h refused = inr (v, h.0, at_next rest (Err f) h.2 refused)

    cells_read : (cs : List Cell) (rest : List ℕ) (v : A) (w : B)
        → ReadsNextCell reads free old cs rest (Ok v) new
        → others (columns_of new) (taken_of new) (rest_of new) (Ok w)
        → CellThen (column_place (columns_of old) (taken_of old)) reads (others (columns_of old) (taken_of old + 1))
        cs rest (Ok (and v w))
    cells_read [] rest v w h read = absurd h.0
    cells_read (c ∷ cs) rest v w h read = (h.0, at_next rest (Ok w) h.2 read)

  module _ {A : Type 0} (accepted : Content → Bool) (reads : Content → Cell → Outcome A → Type 0) (free : Cell → Type 0) where
    abbrev As : Column → Cell → Outcome A → Type 0
    As column = ReadsAs (accepted (content column.ty)) (content column.ty) (reads (content column.ty))

    abbrev Free : Column → Cell → Type 0
    Free column = FreeAs (accepted (content column.ty)) (content column.ty) free

    -- the next column is read as this
    abbrev Next : Result A PlacedFault → Option Column → Type 0
    Next result o = IfSome o (λ column. ReadsNext (As column) (Free column) old result new)

    -- it is refused
    pub column_refused : (X : Type 0) (f : PlacedFault) (o : Option Column) → Next (Err f) o
        → IfNone o (NoColumn {A = A} (taken_of old) (Err f) × X)
        → ColumnThen accepted reads others o (columns_of old) (taken_of old) (rest_of old) (Err f)
    column_refused _ f None some none = none.0
    column_refused _ f (Some column) some none = record {
      cells = some.cells;
      rest = some.rest;
      in_row = some.in_row;
      holds = cell_refused (As column) (Free column) some.cells some.rest f some.holds;
    }

    -- the others are
    pub columns_refused : (X : Type 0) (v : A) (f : PlacedFault) (o : Option Column) → Next (Ok v) o
        → IfNone o (NoColumn {A = A} (taken_of old) (Ok v) × X)
        → others (columns_of new) (taken_of new) (rest_of new) (Err f)
        → ColumnThen accepted reads others o (columns_of old) (taken_of old) (rest_of old) (Err f)
    columns_refused _ v f None some none refused = absurd none.0
    columns_refused _ v f (Some column) some none refused = record {
      cells = some.cells;
      rest = some.rest;
      in_row = some.in_row;
      holds = others_refused (As column) (Free column) some.cells some.rest v f some.holds refused;
    }

    -- all are read
    pub columns_read : (X : Type 0) (v : A) (w : B) (o : Option Column) → Next (Ok v) o
        → IfNone o (NoColumn {A = A} (taken_of old) (Ok v) × X)
        → others (columns_of new) (taken_of new) (rest_of new) (Ok w)
        → ColumnThen accepted reads others o (columns_of old) (taken_of old) (rest_of old) (Ok (and v w))
    columns_read _ v w None some none read = absurd none.0
    columns_read _ v w (Some column) some none read = record {
      cells = some.cells;
      rest = some.rest;
      in_row = some.in_row;
      holds = cells_read (As column) (Free column) some.cells some.rest v w some.holds read;
    }

    module _ (frees : List Column → ℕ → List ℕ → Type 0)
        (fits : FreeAnd accepted free frees (columns_of old) (taken_of old) (rest_of old)) where
      cell_takes_none : (column : Column) → slice_get (columns_of old) (taken_of old) ≡ Some column → (f : PlacedFault)
          → (cs : List Cell) (rest : List ℕ) → CellsInRow (rest_of old) 1 cs rest
          → ReadsNextCell (As column) (Free column) old cs rest (Err f) new → IsSome (refusal_of f.fault)
      cell_takes_none column there f [] rest row h = ap is_some h.0.1
      cell_takes_none column there f (c ∷ cs) rest row h =
          h.1 (fits row.0.front row.0.rest c column there row.0.is row.0.spells).0

      -- a column that is read without memory
      pub column_takes_none : (X : Type 0) (f : PlacedFault) (o : Option Column)
          → slice_get (columns_of old) (taken_of old) ≡ o → Next (Err f) o
          → IfNone o (NoColumn {A = A} (taken_of old) (Err f) × X) → IsSome (refusal_of f.fault)
      column_takes_none _ f None there some none = ap is_some none.0.1
      column_takes_none _ f (Some column) there some none =
          cell_takes_none column there f some.cells some.rest some.in_row some.holds

      others_free : (column : Column) → slice_get (columns_of old) (taken_of old) ≡ Some column → (v : A)
          → (cs : List Cell) (rest : List ℕ) → CellsInRow (rest_of old) 1 cs rest
          → ReadsNextCell (As column) (Free column) old cs rest (Ok v) new
          → frees (columns_of new) (taken_of new) (rest_of new)
      others_free column there v [] rest row h = absurd h.0
      others_free column there v (c ∷ []) rest row h =
          let then = (fits row.0.front row.0.rest c column there row.0.is row.0.spells).1 in
          let stands = h.2 in
          subst (λ x. frees x (taken_of new) (rest_of new)) (sym stands.columns)
          (subst (λ x. frees (columns_of old) x (rest_of new)) (sym stands.taken_is)
          (subst (λ x. frees (columns_of old) (taken_of old + 1) x) (row.0.rest_spells ∙ sym stands.rest_is) then))
      others_free column there v (c ∷ d ∷ cs) rest row h = let few = row.1 in absurd (omega (arith, few))

      -- and those after it
      pub others_take_none : (X : Type 0) (v : A) (o : Option Column)
          → slice_get (columns_of old) (taken_of old) ≡ o → Next (Ok v) o
          → IfNone o (NoColumn {A = A} (taken_of old) (Ok v) × X) → frees (columns_of new) (taken_of new) (rest_of new)
      others_take_none _ v None there some none = absurd none.0
      others_take_none _ v (Some column) there some none =
          others_free column there v some.cells some.rest some.in_row some.holds
