-- The list of an array whose elements were read in a run.
use Rattle.std.proofs.Common.{ℕ, List, [], ◌∷◌, ◌++◌, Option, Some, None, Err, sym, subst, inl, inr}
use Rattle.std.specs.Prelude.{IfSome}
use Rattle.pg_base.specs.Arrays.{SpellsHead}
use Rattle.pg_base.specs.Cells.{Cell, CellsInRow}
use Rattle.pg_base.specs.Counts.{ToRead}
use Rattle.pg_types.specs.Faults.{Refusal, Outcome, refusal_of, size}
use Rattle.pg_types.specs.declared.fault.Fault.{Fault}
use Rattle.pg_read.proofs.ArrayCellSteps.{cells_missing, fault_more, fault_stays}
use Rattle.pg_read.specs.ArrayReading.{ReadsAll, ReadsElements, ReadsList}
use Rattle.pg_read.specs.RunReading.{ReadsRun, RunStops, StopsRefused, StopsTruncated}

module _ {A X : Type 0} (items : X → List A) (reads : Cell → Outcome A → Type 0) (b : List ℕ) (start : ToRead)
    (head : SpellsHead b start) (new : List ℕ) where
  refused : (cs : List Cell) (rest : List ℕ) (r : Refusal) → StopsRefused reads start.bytes cs r new
      → ReadsElements reads start.left cs rest (Err r)
  refused cs rest r stops =
      let fault : ReadsAll reads (stops.before ++ stops.cell ∷ []) (Err r) =
      fault_more reads stops.before (stops.cell ∷ []) stops.values r stops.reads_before (inl stops.refuses) in
      inl (subst (λ x. ReadsAll reads x (Err r)) (sym stops.stands.1)
      (fault_stays reads (stops.before ++ stops.cell ∷ []) stops.stands.0 r fault))

  truncated : (cs : List Cell) (rest : List ℕ) (r : Refusal) → StopsTruncated reads start.left cs rest r new
      → ReadsElements reads start.left cs rest (Err r)
  truncated cs rest r stops =
      inr (stops.values, stops.reads_all, rw stops.refusal_is (cells_missing start.left cs rest stops.fewer))

  stopped : (cs : List Cell) (rest : List ℕ) → CellsInRow start.bytes start.left cs rest → (fault : Option Refusal)
      → RunStops reads start.bytes start.left cs rest fault new
      → IfSome fault (λ r. ReadsList items reads (Some b) (Err r))
  stopped cs rest row None stops = tt
  stopped cs rest row (Some r) stops =
      inr (record {
        count = start.left;
        cells = cs;
        rest = rest;
        body = (start.bytes, head, row);
        gives = elim stops [ inl z ↦ refused cs rest r z | inr z ↦ truncated cs rest r z ];
      })

  -- where the run stops, so does the list
  pub list_stops : (f : Fault) → ReadsRun items reads start.bytes start.left (Err f) new
      → IfSome (refusal_of f) (λ r. ReadsList items reads (Some b) (Err r))
  list_stops f run = stopped run.cells run.rest run.in_row (refusal_of f) run.holds
