-- What the proof of `six_digits` answers by hand.
use Rattle.std.proofs.Common.{arith}
use Rattle.pg_calendar.proofs.Padding.{three_pairs}
use Rattle.pg_calendar.proofs.digits.six_digits.Goals as goal

pub returns : goal.returns
returns c =
    let small = c.ranges.number.fits in
    rw (three_pairs c.args.number (omega arith), c.in_ok-d0.ensures, c.in_ok-d2.ensures, c.in_ok-d4.ensures)
