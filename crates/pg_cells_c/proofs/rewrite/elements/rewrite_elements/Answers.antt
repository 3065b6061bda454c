-- What the proof of `rewrite_elements` answers by hand.
use Rattle.std.specs.Prelude.{◌+◌, ◌++◌, ◌||◌, Ok, refl}
use Rattle.std.proofs.Common.{arith, ap, subst}
use Rattle.std.proofs.lemmas.List.{length-append}
use Rattle.std.proofs.lemmas.Result.{err_from_is_err_and}
use Rattle.pg_base.specs.Cells.{cell_of}
use Rattle.pg_cells_c.proofs.ElementSteps.{all_written, cell_none, element_refused, frame_room, next_refused, nothing_yet}
use Rattle.pg_cells_c.proofs.ElementSteps.{one_more}
use Rattle.pg_cells_c.proofs.rewrite.elements.rewrite_elements.Goals as goal
use Rattle.pg_cells_c.specs.Elements.{WritesFrame, rewritten_cell}

pub loop-cell-init : goal.loop-cell-init
loop-cell-init c = nothing_yet c.args.elements.kind c.args.elements.nullable c.args.cells c.args.out.now

pub returns-in-Err-clause-frames : goal.returns-in-Err-clause-frames
returns-in-Err-clause-frames c =
    let l = c.loop-cell in
    let stops = rw c.in-Err.is at c.in-Some.ensures in
    next_refused c.args.elements.kind c.args.elements.nullable c.args.cells c.args.out.now l.cells l.len l.has_null l.out
    l.invariant l.out c.code.result c.in-Err.fault stops.0 stops.1 c.code.ensures

pub returns-in_err-len-clause-frames : goal.returns-in_err-len-clause-frames
returns-in_err-len-clause-frames c =
    let l = c.loop-cell in
    let takes = rw c.in-Ok.is at c.in-Some.ensures in
    let p = err_from_is_err_and c.from_residual.result c.from_residual.ensures.1 in
    rw (p.1, p.2) (element_refused c.args.elements.kind c.args.elements.nullable c.args.cells c.args.out.now l.cells
    l.len l.has_null l.out l.invariant c.next.new.self (cell_of c.in-Ok.cell) takes.front takes.fewer takes.is
    takes.spells c.split_at_mut-rest.result.1.now c.rewrite_element.new.out
    (c.split_at_mut-rest.result.0.now ++ c.rewrite_element.new.out) c.in_err-len.field-0.0 c.in_err-len.field-0.0
    c.in_err-len.ensures refl)

pub overflow_add-len : goal.overflow_add-len
overflow_add-len c =
    let l = c.loop-cell in
    let takes = rw c.in-Ok.is at c.in-Some.ensures in
    let room = frame_room c.args.elements.kind c.args.elements.nullable c.args.cells c.args.out.now l.cells l.len
    l.has_null l.out l.invariant c.next.new.self (cell_of c.in-Ok.cell) takes.front takes.fewer takes.is takes.spells
    c.split_at_mut-rest.result.1.now c.rewrite_element.new.out c.in_ok-len.field-0 c.in_ok-len.ensures in
    omega (arith, room, c.requires)

pub loop-cell-preserved : goal.loop-cell-preserved
loop-cell-preserved c =
    let l = c.loop-cell in
    let front = c.split_at_mut-rest.result.0.now in
    let rest_new = c.rewrite_element.new.out in
    let n = c.in_ok-len.field-0 in
    let takes = rw c.in-Ok.is at c.in-Some.ensures in
    let cell = cell_of c.in-Ok.cell in
    let written = subst
    (λ x. WritesFrame (rewritten_cell c.args.elements.kind c.args.elements.nullable cell) x rest_new (Ok n))
    c.split_at_mut-rest.ensures.back c.in_ok-len.ensures in
    let joined = length-append front rest_new in
    let parts = c.split_at_mut-rest.ensures in
    one_more c.args.elements.kind c.args.elements.nullable c.args.cells c.args.out.now l.cells l.len l.has_null l.out
    l.invariant c.next.new.self cell takes.front takes.fewer takes.is takes.spells c.min-start.result n (l.len + n)
    (l.has_null || c.is_none.result) rest_new (front ++ rest_new) (λ h. omega (arith, h, c.min-start.ensures)) written
    (ap (λ x. x ++ rest_new) parts.front) (omega (arith, joined, c.rewrite_element.auto.out, parts.front_len, parts.back_len)) refl
    (ap (λ t. l.has_null || t) (cell_none c.in-Ok.cell c.is_none.result c.is_none.ensures))

pub returns-clause-frames : goal.returns-clause-frames
returns-clause-frames c =
    let l = c.loop-cell in
    all_written c.args.elements.kind c.args.elements.nullable c.args.cells c.args.out.now l.cells l.len l.has_null l.out
    l.invariant c.in_default.ensures.0
    (record { count = c.len-count.result; len = l.len; has_null = l.has_null }) c.len-count.ensures refl refl
