-- What the proof of `escape_of` answers by hand.
use Rattle.std.proofs.Common.{arith}
use Rattle.pg_copy.proofs.EscapeTable.{some_letter}
use Rattle.pg_copy.proofs.escapes.escape_of.Goals as goal

pub returns-in_default : goal.returns-in_default
returns-in_default c = some_letter c.letter_at.result c.args.byte (λ e. omega arith) c.letter_at.ensures
