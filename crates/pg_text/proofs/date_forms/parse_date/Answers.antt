-- What the proof of `parse_date` answers by hand.
use Rattle.std.proofs.Common.{rules, ◌≡◌, subst, w64, to_z, of_z}
use Rattle.pg_text.specs.Scans.{TakesDay}
use Rattle.pg_text.proofs.date_forms.parse_date.Goals as goal

pub returns : goal.returns
returns c =
    let date = c.in_ok-date.date in
    let rest = c.take_date.new.scanner.rest.now in
    let inside : to_z w64 (of_z w64 date.year) ≡ date.year = search rules in
    let year : to_z w64 (of_z w64 c.in_ok-year.year) ≡ c.in_ok-year.year = search rules in (
      date.year,
      rest,
      subst (λ text. TakesDay text date.year date.month date.day rest) c.new-scanner.ensures c.in_ok-date.ensures,
      rw year (rw inside at c.in_ok-year.ensures),
    )
