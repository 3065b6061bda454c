-- What the proof of `pgc_rewrite` answers by hand.
use Rattle.std.specs.Prelude.{◌++◌, refl}
use Rattle.pg_cells_c.proofs.TypeSteps.{row_stored, row_told}
use Rattle.pg_cells_c.proofs.rewrite.pgc_rewrite.Goals as goal
use Rattle.pg_cells_c.specs.Rewriting.{array_rows, rewritten_rows, row_among}

pub returns-in-Ok : goal.returns-in-Ok
returns-in-Ok c =
    row_stored (row_among (array_rows ++ rewritten_rows) c.args.oid) c.args.cell.now c.args.out.now c.rewrite.new.out
    c.args.written.now c.in-Ok.len c.in-Ok.len c.in-Ok.ensures refl

pub returns-in-Err : goal.returns-in-Err
returns-in-Err c =
    row_told (row_among (array_rows ++ rewritten_rows) c.args.oid) c.args.cell.now c.args.out.now c.rewrite.new.out
    c.args.written.now c.args.written.now c.in-Err.fault c.in-Err.ensures refl
