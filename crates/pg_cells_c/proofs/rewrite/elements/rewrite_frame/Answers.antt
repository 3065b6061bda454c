-- What the proof of `rewrite_frame` answers by hand.
use Rattle.std.specs.Prelude.{◌≡◌, ◌+◌, ◌++◌, pos, true, refl}
use Rattle.std.specs.Int.{w32, to_be_bytes}
use Rattle.std.proofs.Common.{arith, ap, subst, ◌∙◌}
use Rattle.std.proofs.lemmas.Grind.{common_steps}
use Rattle.std.proofs.lemmas.Int.{ints, of_z-to_z}
use Rattle.std.proofs.lemmas.Result.{err_from_is_err_and}
use Rattle.pg_base.specs.Cells.{be}
use Rattle.pg_cells_c.proofs.ElementSteps.{frame_refused, frame_written, outcome_length}
use Rattle.pg_cells_c.proofs.rewrite.elements.rewrite_frame.Goals as goal
use Rattle.pg_cells_c.specs.Writings.{WritesInto}

pub returns-in_err-len : goal.returns-in_err-len
returns-in_err-len c =
    let p = err_from_is_err_and c.from_residual.result c.from_residual.ensures.1 in
    rw (p.1, p.2) (frame_refused c.args.kind true c.args.cell.now c.split_at_mut-prefix.result.1.now
    c.rewrite_cell.new.out c.args.out.now (c.split_at_mut-prefix.result.0.now ++ c.rewrite_cell.new.out)
    c.in_err-len.field-0.0 c.in_err-len.field-0.0 c.in_err-len.ensures refl)

pub overflow_cast-len : goal.overflow_cast-len
overflow_cast-len c =
    let len = outcome_length c.args.kind c.args.cell.now c.split_at_mut-prefix.result.1.now c.rewrite_cell.new.out
    c.in_ok-len.len c.in_ok-len.ensures in
    omega (arith, ints, len, c.requires)

pub overflow_add-result : goal.overflow_add-result
overflow_add-result c =
    let len = outcome_length c.args.kind c.args.cell.now c.split_at_mut-prefix.result.1.now c.rewrite_cell.new.out
    c.in_ok-len.len c.in_ok-len.ensures in
    omega (arith, ints, len, c.requires)

pub returns : goal.returns
returns c =
    let front = c.split_at_mut-prefix.result.0.now in
    let rest = c.split_at_mut-prefix.result.1.now in
    let n = c.in_ok-len.len in
    let len = outcome_length c.args.kind c.args.cell.now rest c.rewrite_cell.new.out n c.in_ok-len.ensures in
    let head : c.to_be_bytes.result ≡ be w32 (pos n) = c.to_be_bytes.ensures
    ∙ ap (to_be_bytes w32) (of_z-to_z w32 n (omega (arith, ints, len, c.requires))) in
    let parts : c.args.out.now ≡ front ++ rest = grind (arith, common_steps) in
    frame_written c.args.kind true c.args.cell.now c.args.out.now front rest (c.write.new.out ++ c.rewrite_cell.new.out)
    c.write.new.out c.rewrite_cell.new.out n c.write.result (4 + n) c.requires parts
    (λ h. omega (arith, h, c.split_at_mut-prefix.ensures.front_len, c.min-prefix_len.ensures)) c.in_ok-len.ensures
    (subst (λ b. WritesInto b front c.write.new.out c.write.result) head c.write.ensures) refl refl
