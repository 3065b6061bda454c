-- What the proof of `letter_at` answers by hand.
use Rattle.std.proofs.Common.{arith}
use Rattle.pg_copy.proofs.EscapeTable.{letter_at}
use Rattle.pg_copy.proofs.escapes.letter_at.Goals as goal

pub returns : goal.returns
returns c = letter_at c.args.byte (omega arith)
