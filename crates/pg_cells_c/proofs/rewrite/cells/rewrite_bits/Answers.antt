-- What the proof of `rewrite_bits` answers by hand.
use Rattle.std.specs.Prelude.{refl}
use Rattle.std.proofs.Common.{sym, ap, subst, ◌∙◌}
use Rattle.pg_base.specs.Bits.{SpellsBits, bytes_for, first_bits}
use Rattle.pg_cells_c.proofs.KindSteps.{bits_rewritten, kind_refused}
use Rattle.pg_cells_c.proofs.rewrite.cells.rewrite_bits.Goals as goal
use Rattle.pg_cells_c.specs.declared.rewrite.kinds.Kind.TheVariants as kind

pub returns-in-Ok : goal.returns-in-Ok
returns-in-Ok c =
    let b = c.args.cell.now in
    let len = c.len.result in
    let bytes = c.bytes.result.now in
    let form : SpellsBits b (first_bits len bytes) = subst (λ p. SpellsBits b (first_bits len p))
    (sym c.bytes.ensures.bytes) (subst (λ n. SpellsBits b (first_bits n c.in-Ok.bits.bytes.now)) (sym c.len.ensures)
    c.in-Ok.ensures.outcome) in
    bits_rewritten b bytes c.args.out.now c.pgc_varbit_write.new.out len c.pgc_varbit_write.result form
    (c.bytes.ensures.bytes ∙ c.in-Ok.ensures.in_place) (c.bytes.ensures.whole ∙ ap bytes_for (sym c.len.ensures))
    c.pgc_varbit_write.ensures

pub returns-in-Err : goal.returns-in-Err
returns-in-Err c =
    let out = c.args.out.now in
    kind_refused kind.Bits c.args.cell.now out out c.code.result c.in-Err.fault c.in-Err.ensures.outcome
    c.in-Err.ensures.never_memory c.code.ensures refl
