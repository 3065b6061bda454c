-- What the proof of `rewrite_bool` answers by hand.
use Rattle.std.specs.Prelude.{refl}
use Rattle.pg_cells_c.proofs.KindSteps.{bool_written, kind_refused}
use Rattle.pg_cells_c.proofs.rewrite.cells.rewrite_bool.Goals as goal
use Rattle.pg_cells_c.specs.declared.rewrite.kinds.Kind.TheVariants as kind

pub returns-in-Ok : goal.returns-in-Ok
returns-in-Ok c =
    bool_written c.args.cell.now c.args.out.now c.pgc_bool_write.new.out c.in-Ok.value c.pgc_bool_write.result
    c.in-Ok.ensures.outcome c.pgc_bool_write.ensures

pub returns-in-Err : goal.returns-in-Err
returns-in-Err c =
    let out = c.args.out.now in
    kind_refused kind.Bool c.args.cell.now out out c.code.result c.in-Err.fault c.in-Err.ensures.outcome
    c.in-Err.ensures.never_memory c.code.ensures refl
