-- What the proof of `rewrite_fixed` answers by hand.
use Rattle.std.specs.Prelude.{refl}
use Rattle.pg_cells_c.proofs.KindSteps.{fixed_refused, fixed_written}
use Rattle.pg_cells_c.proofs.rewrite.cells.rewrite_fixed.Goals as goal

pub returns-then-cell-width : goal.returns-then-cell-width
returns-then-cell-width c =
    let out = c.args.out.now in
    fixed_refused c.args.width c.args.cell.now out out c.code.result c.if-cell-width.true refl c.code.ensures

pub returns : goal.returns
returns c = fixed_written c.args.width c.args.cell.now c.args.out.now c.write.new.out c.write.result c.if-cell-width.false c.write.ensures
