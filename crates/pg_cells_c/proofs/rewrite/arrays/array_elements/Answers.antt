-- What the proof of `array_elements` answers by hand.
use Rattle.std.specs.Prelude.{refl}
use Rattle.pg_cells_c.proofs.ArraySteps.{count_by, elements_by, head_refused}
use Rattle.pg_cells_c.proofs.rewrite.arrays.array_elements.Goals as goal
use Rattle.pg_cells_c.specs.Elements.{rewritten_cells}

pub returns-in-Ok-clause-elements : goal.returns-in-Ok-clause-elements
returns-in-Ok-clause-elements c =
    let k = c.args.elements.kind in
    let nullable = c.args.elements.nullable in
    let h = c.in-Ok.cells in
    elements_by k nullable c.args.cell.now c.args.out.now c.rewrite_elements.new.out h
    (rewritten_cells k nullable h.left h.bytes) c.rewrite_elements.result c.in-Ok.ensures.outcome refl
    c.rewrite_elements.ensures.frames

pub returns-in-Ok-clause-count : goal.returns-in-Ok-clause-count
returns-in-Ok-clause-count c =
    let k = c.args.elements.kind in
    let nullable = c.args.elements.nullable in
    let h = c.in-Ok.cells in
    count_by k nullable c.args.cell.now c.args.out.now c.rewrite_elements.new.out h
    (rewritten_cells k nullable h.left h.bytes) c.rewrite_elements.result c.in-Ok.ensures.outcome refl
    c.rewrite_elements.ensures.frames

pub returns-in-Err-clause-elements : goal.returns-in-Err-clause-elements
returns-in-Err-clause-elements c =
    let out = c.args.out.now in
    head_refused c.args.elements.kind c.args.elements.nullable c.args.cell.now out out c.code.result c.in-Err.fault
    c.in-Err.ensures.outcome c.in-Err.ensures.never_memory c.code.ensures
