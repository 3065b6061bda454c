-- What the proof of `pgc_ltree_write` answers by hand.
use Rattle.std.specs.Prelude.{◌∷◌, true, refl}
use Rattle.std.proofs.Common.{ap, subst}
use Rattle.std.proofs.lemmas.List.{append-nil}
use Rattle.pg_cells_c.proofs.WritingSteps.{no_text, text_written}
use Rattle.pg_cells_c.specs.Writings.{WritesInto, no_cell}
use Rattle.pg_cells_c.proofs.texts.pgc_ltree_write.Goals as goal

pub returns-in-Ok : goal.returns-in-Ok
returns-in-Ok c =
    let out = c.args.out.now in
    let new = c.write_parts.new.out in
    let len = c.write_parts.result in
    let cell = ap (λ t. 1 ∷ t) (append-nil c.args.text.now) in
    text_written true c.args.text.now out new len (subst (λ b. WritesInto b out new len) cell c.write_parts.ensures)
    c.in-Ok.ensures.cases.1

pub returns-in-Err : goal.returns-in-Err
returns-in-Err c = no_text true c.args.text.now c.args.out.now c.args.out.now no_cell c.in-Err.ensures.cases.0 refl refl
