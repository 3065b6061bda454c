-- What the proof of `request_of` answers by hand.
use Rattle.std.proofs.Common.{rules}
use Rattle.copy_cells.proofs.request_of.Goals as goal

pub returns-in-Err : goal.returns-in-Err
returns-in-Err c =
    (c.in-Some-direction_of.direction, (search rules, (c.types_of.result.now, search rules, c.in-Err.ensures.err)))
