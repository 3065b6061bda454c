-- What the proof of `are_4_plain` answers by hand.
use Rattle.std.proofs.Common.{arith}
use Rattle.pg_copy.proofs.PlainLanes.{plain_lanes}
use Rattle.pg_copy.proofs.escapes.are_4_plain.Goals as goal

pub returns-then-bytes-eq0 : goal.returns-then-bytes-eq0
returns-then-bytes-eq0 c = plain_lanes 4 c.args.text.now c.args.at (omega arith) c.requires c.if-bytes-eq0.true
