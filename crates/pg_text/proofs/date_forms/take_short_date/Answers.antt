-- What the proof of `take_short_date` answers by hand.
use Rattle.std.proofs.Common.{rules, arith, ◌≡◌, ◌+◌, ◌*◌, pos, subst, w64, to_z, of_z}
use Rattle.pg_text.specs.Scans.{TakesDigits}
use Rattle.pg_text.proofs.DigitRuns.{pairs_taken}
use Rattle.pg_text.proofs.date_forms.take_short_date.Goals as goal

pub returns : goal.returns
returns c =
    let text = c.args.scanner.now.rest.now in
    let century = c.in_ok-century.century in
    let more = c.in_ok-year.field-0 in
    let month = c.in_ok-month.month in
    let a = c.expect.new.self.rest.now in
    let b = c.expect-2.new.self.rest.now in
    let year : to_z w64 (of_z w64 c.from-year.result) ≡ pos (century * 100 + more) = search rules in (
      century * 100 + more,
      4,
      2,
      a,
      b,
      subst (TakesDigits text (century * 100 + more) 4) c.in_ok-expect.ensures
          (pairs_taken text c.pair.new.self.rest.now c.pair-2.new.self.rest.now century more
          c.in_ok-century.ensures.digits c.in_ok-year.ensures.digits),
      omega arith,
      subst (TakesDigits a month 2) c.in_ok-expect-2.ensures c.in_ok-month.ensures.digits,
      omega arith,
      (2, c.in_ok-day.ensures.digits),
      omega arith,
      year,
    )
