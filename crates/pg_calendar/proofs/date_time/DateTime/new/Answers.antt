-- What the proof of `new` answers by hand.
use Rattle.std.proofs.Common.{arith}
use Rattle.jiff_core.proofs.SignedLemmas.{signed_casts}
use Rattle.pg_calendar.proofs.date_time.DateTime.new.Goals as goal

pub returns : goal.returns
returns c = (
  c.from_day.ensures.civil,
  (omega (arith, signed_casts), omega (arith, signed_casts), omega (arith, signed_casts), omega (arith, signed_casts)),
  omega (arith, signed_casts, c.from_day.ensures.value),
)
