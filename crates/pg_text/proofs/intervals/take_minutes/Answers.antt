-- What the proof of `take_minutes` answers by hand.
use Rattle.std.proofs.Common.{subst, arith}
use Rattle.pg_text.specs.Scans.{TakesNumber}
use Rattle.pg_text.proofs.intervals.take_minutes.Goals as goal

pub returns : goal.returns
returns c = (
  c.in_ok-minutes.minutes,
  c.in_ok-seconds.seconds,
  c.in_ok-micros.micros,
  c.expect.new.self.rest.now,
  c.number_u32-2.new.self.rest.now,
  subst (TakesNumber c.args.scanner.now.rest.now c.in_ok-minutes.minutes) c.in_ok-expect.ensures
      c.in_ok-minutes.ensures.0,
  omega arith,
  c.in_ok-seconds.ensures.0,
  omega arith,
  c.in_ok-micros.ensures,
  omega (
    arith,
    c.from-seconds.ensures,
    c.in_ok-checked_mul.ensures,
    c.in_ok-seconds-2.ensures,
    c.in_ok-time.ensures,
    c.in_ok-time-2.ensures,
  ),
)
