-- What the proof of `rewrite_element` answers by hand.
use Rattle.std.proofs.Common.{ap}
use Rattle.pg_base.specs.Cells.{cell_of}
use Rattle.pg_cells_c.proofs.ElementSteps.{null_refused, null_written}
use Rattle.pg_cells_c.proofs.rewrite.elements.rewrite_element.Goals as goal

pub returns-in-None : goal.returns-in-None
returns-in-None c =
    null_written c.args.elements.kind (cell_of c.args.cell) c.args.elements.nullable c.args.out.now
    c.pgc_null_write.new.out c.pgc_null_write.result (ap cell_of c.in-None.is) c.if-elements.true c.pgc_null_write.ensures

pub returns-in-None-2 : goal.returns-in-None-2
returns-in-None-2 c =
    let out = c.args.out.now in
    null_refused c.args.elements.kind (cell_of c.args.cell) c.args.elements.nullable out out c.code.result
    (ap cell_of c.in-None.is) c.if-elements.false c.code.ensures
