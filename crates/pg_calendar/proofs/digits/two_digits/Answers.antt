-- What the proof of `two_digits` answers by hand.
use Rattle.pg_calendar.proofs.Padding.{two_digits}
use Rattle.pg_calendar.proofs.digits.two_digits.Goals as goal

pub returns-then-number-lt100 : goal.returns-then-number-lt100
returns-then-number-lt100 c = two_digits c.args.number c.if-number-lt100.true
