-- What the proof of `short_fraction` answers by hand.
use Rattle.std.proofs.Common.{arith}
use Rattle.pg_calendar.proofs.Padding.{three_pairs}
use Rattle.pg_text.proofs.digits.short_fraction.Goals as goal

pub returns : goal.returns
returns c =
    let small = c.ranges.millionths.fits in
    rw (three_pairs c.args.millionths (omega arith), c.in_ok-d0.ensures, c.in_ok-d2.ensures, c.in_ok-d4.ensures)
