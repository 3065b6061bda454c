-- What the proof of `pgc_text_write` answers by hand.
use Rattle.std.specs.Prelude.{false, refl}
use Rattle.pg_cells_c.proofs.WritingSteps.{no_text, text_written}
use Rattle.pg_cells_c.specs.Writings.{no_cell}
use Rattle.pg_cells_c.proofs.texts.pgc_text_write.Goals as goal

pub returns-in-Ok : goal.returns-in-Ok
returns-in-Ok c = text_written false c.args.text.now c.args.out.now c.write.new.out c.write.result c.write.ensures
    c.in-Ok.ensures.cases.1

pub returns-in-Err : goal.returns-in-Err
returns-in-Err c = no_text false c.args.text.now c.args.out.now c.args.out.now no_cell c.in-Err.ensures.cases.0 refl refl
