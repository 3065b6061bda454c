-- A run of cells that is read from their frames.
use Rattle.std.proofs.Common.{◌≡◌, ℕ, List, ◌∷◌, ◌++◌, [], length, Option, Some, None, Result, Ok, Err, refl, sym}
use Rattle.std.proofs.Common.{subst, arith, inl, inr}
use Rattle.pg_base.proofs.CellLaws.{cells_single, frames_in_row}
use Rattle.pg_base.specs.Cells.{Cell, CellsInRow}
use Rattle.pg_types.specs.Faults.{Refusal, Outcome, refusal_of}
use Rattle.pg_types.specs.declared.fault.Fault.{Fault}
use Rattle.pg_read.proofs.ArrayCellSteps.{fault_more, fault_stays}
use Rattle.pg_read.specs.Laws.ArrayReading.{all_single}
use Rattle.pg_read.specs.ArrayReading.{ReadsAll}
use Rattle.pg_read.specs.Reading.{ReadsSingle}
use Rattle.pg_read.specs.RunReading.{AnswersValues, ReadsFrames, ReadsRun, RunEnds, RunStops}

module _ {A X : Type 0} (items : X → List A) (same : A → A → Type 0) (reads : Cell → Outcome A → Type 0)
    (single : ReadsSingle same reads) (old new : List ℕ) (n : ℕ) where
  module _ (cs : List Cell) (vs : List A) (many : length cs ≡ n) (values : ReadsAll reads cs (Ok vs)) where
    -- cells that all give values stop no run
    never_stops : (rest : List ℕ) (fault : Option Refusal) → RunStops reads old n cs rest fault new → fault ≡ None
    never_stops rest None h = refl
    never_stops rest (Some r) h = elim h [
      | inl z ↦
          let refused : ReadsAll reads (z.before ++ z.cell ∷ []) (Err r) =
          fault_more reads z.before (z.cell ∷ []) z.values r z.reads_before (inl z.refuses) in
          let all : ReadsAll reads cs (Err r) = subst (λ x. ReadsAll reads x (Err r)) (sym z.stands.1)
          (fault_stays reads (z.before ++ z.cell ∷ []) z.stands.0 r refused) in
          absurd (all_single same reads single cs (Err r) (Ok vs) all values)
      | inr z ↦ absurd (omega (arith, many, z.fewer))
    ]

    answers_values : (s : List ℕ) (result : Result X Fault) → RunEnds items reads old n cs s result new
        → AnswersValues items same vs s result new
    answers_values s (Ok x) h = (all_single same reads single cs (Ok (items x)) (Ok vs) h.1 values, h.2)
    answers_values s (Err f) h = never_stops s (refusal_of f) h

  -- a run over frames reads their cells
  pub run_frames : (result : Result X Fault) → ReadsRun items reads old n result new
      → ReadsFrames items same reads old n result new
  run_frames result run cs b s vs are is many values =
      let row : CellsInRow old n cs s = subst (λ x. CellsInRow x n cs s) (sym is)
      (subst (λ m. CellsInRow (b ++ s) m cs s) many (frames_in_row cs b s are)) in
      let e = cells_single old n run.cells cs run.rest s run.in_row row in
      answers_values cs vs many values s result
      (subst (λ x. RunEnds items reads old n cs x result new) e.1
      (subst (λ x. RunEnds items reads old n x run.rest result new) e.0 run.holds))
