-- What the proof of `parse_datetime` answers by hand.
use Rattle.std.proofs.Common.{rules, ◌≡◌, subst, w64, to_z, of_z}
use Rattle.pg_text.specs.Scans.{TakesDateTime}
use Rattle.pg_text.proofs.date_forms.parse_datetime.Goals as goal

pub returns : goal.returns
returns c =
    let date = c.in_ok-datetime.datetime.date in
    let clock = c.in_ok-datetime.datetime.clock in
    let rest = c.take_datetime.new.scanner.rest.now in
    let inside : to_z w64 (of_z w64 date.year) ≡ date.year = search rules in
    let year : to_z w64 (of_z w64 c.in_ok-year.year) ≡ c.in_ok-year.year = search rules in (
      date.year,
      rest,
      subst (λ text. TakesDateTime text date.year date.month date.day clock.hour clock.minute clock.second clock.micros
          rest) c.new-scanner.ensures c.in_ok-datetime.ensures,
      rw year (rw inside at c.in_ok-year.ensures),
    )
