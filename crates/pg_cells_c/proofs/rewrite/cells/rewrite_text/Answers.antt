-- What the proof of `rewrite_text` answers by hand.
use Rattle.std.specs.Prelude.{false, refl}
use Rattle.pg_base.proofs.FormatLaws.{text_grammar}
use Rattle.pg_base.proofs.TextLemmas.{text_refused}
use Rattle.pg_cells_c.proofs.KindSteps.{kind_fails, kind_written}
use Rattle.pg_cells_c.proofs.rewrite.cells.rewrite_text.Goals as goal
use Rattle.pg_types.specs.Faults.{utf8}
use Rattle.pg_cells_c.specs.declared.rewrite.kinds.Kind.TheVariants as kind

pub returns-in-Ok : goal.returns-in-Ok
returns-in-Ok c =
    let b = c.args.cell.now in
    kind_written kind.Text b c.args.out.now c.write.new.out c.write.result
    ((text_grammar (λ s. s) false).passes b b (c.in-Ok.ensures.cases.1, refl)) c.write.ensures

pub returns-in-Err : goal.returns-in-Err
returns-in-Err c =
    let b = c.args.cell.now in
    let out = c.args.out.now in
    kind_fails kind.Text b out out c.code.result utf8 (text_refused b c.in-Err.ensures.cases.0) refl c.code.ensures
