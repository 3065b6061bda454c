-- What the proof of `datetime_of` answers by hand.
use Rattle.std.proofs.Common.{arith}
use Rattle.jiff_core.proofs.SignedLemmas.{signed_casts}
use Rattle.pg_base.proofs.calendar.datetime_of.Goals as goal

pub returns : goal.returns
returns c =
    let same = c.new.ensures.2 in (c.new.ensures.0, c.new.ensures.1, omega (arith, signed_casts))
