-- What the proof of `rewrite_array` answers by hand.
use Rattle.std.specs.Prelude.{[], refl}
use Rattle.std.proofs.lemmas.Result.{err_from_is_err_and}
use Rattle.pg_cells_c.proofs.ArraySteps.{array_not_written, array_refused, array_written, never_refused}
use Rattle.pg_cells_c.proofs.rewrite.arrays.rewrite_array.Goals as goal

pub returns-in_err-frames : goal.returns-in_err-frames
returns-in_err-frames c =
    let p = err_from_is_err_and c.from_residual.result c.from_residual.ensures.1 in
    let n = c.in_err-frames.field-0.0 in
    rw (p.1, p.2) (array_refused c.args.kind c.args.array c.args.cell.now [] c.array_elements.new.out c.args.out.now n n
    c.in_err-frames.ensures.elements refl)

pub returns-in_err-array_elements : goal.returns-in_err-array_elements
returns-in_err-array_elements c =
    absurd (never_refused c.args.kind c.args.array c.args.cell.now [] c.array_elements.new.out
    c.split_at_mut-head.result.1.now c.array_elements-then-len-out.new.out c.in_ok-frames.frames
    c.in_err-array_elements.field-0.0 c.in_ok-frames.ensures.elements c.in_err-array_elements.ensures.elements)

pub returns-in_ok-array_elements : goal.returns-in_ok-array_elements
returns-in_ok-array_elements c =
    let parts = c.split_at_mut-head.ensures in
    array_written c.args.kind c.args.array c.args.cell.now c.args.out.now [] c.array_elements.new.out
    c.split_at_mut-head.result.0.now c.split_at_mut-head.result.1.now c.write_head.new.head
    c.array_elements-then-len-out.new.out c.in_ok-frames.frames c.in_ok-array_elements.field-0
    c.in_ok-frames.ensures.elements c.in_ok-frames.ensures.count c.if-len-out.true parts.value parts.front_len
    c.write_head.ensures c.in_ok-array_elements.ensures.elements

pub returns-else-len-out : goal.returns-else-len-out
returns-else-len-out c =
    array_not_written c.args.kind c.args.array c.args.cell.now c.args.out.now [] c.array_elements.new.out
    c.in_ok-frames.frames c.in_ok-frames.ensures.elements c.in_ok-frames.ensures.count c.if-len-out.false
