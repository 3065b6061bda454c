-- The invariants and measures of `rewrite_elements`.
use Rattle.pg_cells_c.proofs.ElementSteps.{SoFar}
use Rattle.pg_cells_c.proofs.rewrite.elements.rewrite_elements.Given as goal

-- the frames of the elements so far, where there is room for them
abbrev pub invariant-loop-cell : goal.invariant-loop-cell
invariant-loop-cell l =
    SoFar l.elements.kind l.elements.nullable l.initial.cells l.initial.out l.cells l.len l.has_null l.out

abbrev pub decreases-loop-cell : goal.decreases-loop-cell
decreases-loop-cell l = l.cells.left
