-- What the proof of `array_in` answers by hand.
use Rattle.std.specs.Prelude.{true, false, drop}
use Rattle.std.proofs.Common.{ap, sym, ◌∙◌}
use Rattle.pg_cells_c.proofs.HeadSteps.{array_from, elements_at, head_len}
use Rattle.pg_cells_c.proofs.arrays.array_in.Goals as goal
use Rattle.pg_cells_c.proofs.arrays.array_in.Goals.{then-starts_with, else-starts_with}

pub returns-clause-outcome : goal.returns-clause-outcome
returns-clause-outcome c =
    let b = c.args.cell.now in
    let r = c.in_ok-cells.cells in
    let head = c.in_ok-cells.ensures.outcome in
    let test = sym c.starts_with.ensures.value in
    array_from b r c.len.result c.if-starts_with.offset c.element_oid.result head c.len.ensures
    (elim c.if-starts_with.branch [
      | then-starts_with w ↦ ap (λ n. drop n b) w.offset-is ∙ elements_at b r head true (test ∙ w.if-starts_with.true)
      | else-starts_with w ↦ ap (λ n. drop n b) w.offset-is ∙ elements_at b r head false (test ∙ w.if-starts_with.false)
    ]) c.element_oid.ensures

pub element_oid-requires : goal.element_oid-requires
element_oid-requires c = head_len c.args.cell.now c.in_ok-cells.cells c.in_ok-cells.ensures.outcome
