-- What the proof of `split_text` answers by hand.
use Rattle.pg_cells_c.proofs.WalkSteps.{damaged_text}
use Rattle.pg_cells_c.proofs.frames.split_text.Goals as goal

pub returns-in-Err-clause-outcome : goal.returns-in-Err-clause-outcome
returns-in-Err-clause-outcome c =
    let p = rw c.in-Some.is at c.in_ok-cell.ensures.outcome in
    damaged_text c.args.bytes.now p.0 c.in-Some.text.now c.in_ok-cell.bytes.now p.1 p.2 c.in-Err.ensures.cases.0
