-- What the proof of `take_short_datetime` answers by hand.
use Rattle.std.proofs.Common.{inl, inr, subst}
use Rattle.pg_text.specs.Scans.{TakesDigits}
use Rattle.pg_text.proofs.date_forms.take_short_datetime.Goals as goal

pub returns : goal.returns
returns c =
    let a = c.expect.new.self.rest.now in (
      c.take_short_date.new.scanner.rest.now,
      c.in_ok-date.ensures,
      inr (
        a,
        inl c.in_ok-expect.ensures,
        (
          c.expect-2.new.self.rest.now,
          c.pair-2.new.self.rest.now,
          (2, subst (TakesDigits a c.in_ok-hour.hour 2) c.in_ok-expect-2.ensures c.in_ok-hour.ensures.digits),
          (2, c.in_ok-minute.ensures.digits),
          inr (
            c.expect-3.new.self.rest.now,
            c.number_u32.new.self.rest.now,
            c.in_ok-expect-3.ensures,
            c.in_ok-second.ensures.0,
            c.in_ok-micros.ensures,
          ),
        ),
      ),
    )
