-- What the proof of `parse_micros` answers by hand.
use Rattle.std.proofs.Common.{rules, ◌≡◌, w64, to_z, of_z}
use Rattle.pg_calendar.proofs.Outcomes.{MatchOption_then}
use Rattle.pg_text.proofs.date_forms.parse_micros.Goals as goal

pub returns : goal.returns
returns c =
    let date = c.in_ok-parse_datetime.field-0.date in
    let clock = c.in_ok-parse_datetime.field-0.clock in
    let day : to_z w64 (of_z w64 c.args.day) ≡ c.args.day = search rules in
    MatchOption_then c.micros_from.result (rw day at c.micros_from.ensures) (λ _. tt)
    (λ micros timestamp. (
      date.year,
      date.month,
      date.day,
      clock.hour,
      clock.minute,
      clock.second,
      clock.micros,
      c.in_ok-parse_datetime.ensures,
      timestamp,
    ))
