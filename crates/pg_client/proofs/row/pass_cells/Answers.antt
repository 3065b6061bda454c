-- What the proof of `pass_cells` answers by hand.
use Rattle.std.proofs.Common.{◌++◌, ◌∷◌, [], arith, length-append}
use Rattle.pg_base.specs.Cells.{cell_of}
use Rattle.pg_client.proofs.RowLaws.{one_more}
use Rattle.pg_client.proofs.row.pass_cells.Goals as goal

pub loop-passed-preserved : goal.loop-passed-preserved
loop-passed-preserved c =
    let before = c.loop-passed.invariant in
    let cell = c.in-Ok.ensures in (
      before.0 ++ cell_of c.in-Ok.field-0 ∷ [],
      omega (arith, before.1, length-append before.0 (cell_of c.in-Ok.field-0 ∷ [])),
      one_more _ _ _ _ before.0 _ before.2 cell.1 cell.2,
    )
