-- What the proof of `take_date` answers by hand.
use Rattle.std.proofs.Common.{rules, arith, ◌≡◌, ◌∷◌, pos, subst, sym, w64, to_z, of_z}
use Rattle.pg_text.specs.Scans.{TakesDigits}
use Rattle.pg_text.proofs.date_forms.take_date.Goals as goal

pub returns : goal.returns
returns c =
    let y = c.in_ok-year in
    let m = c.in_ok-month in
    let a = c.expect.new.self.rest.now in
    let b = c.expect-2.new.self.rest.now in
    let year : to_z w64 (of_z w64 c.in_ok-year-2.year) ≡ pos y.year = search rules in
    let month : c.in_ok-month-2.month ≡ m.month = search rules in (
      y.year,
      y.year_len,
      m.month_len,
      a,
      b,
      subst (TakesDigits c.args.scanner.now.rest.now y.year y.year_len) c.in_ok-expect.ensures y.ensures.0,
      omega arith,
      subst (λ n. TakesDigits a n m.month_len (45 ∷ b)) (sym month)
          (subst (TakesDigits a m.month m.month_len) c.in_ok-expect-2.ensures m.ensures.0),
      omega arith,
      c.in_ok-day.ensures.0,
      omega arith,
      year,
    )
