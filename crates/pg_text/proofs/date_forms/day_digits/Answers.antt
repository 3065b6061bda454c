-- What the proof of `day_digits` answers by hand.
use Rattle.std.proofs.Common.{rules, ◌≡◌, ◌++◌, ◌∷◌, [], ap, sym, ◌∙◌, arith}
use Rattle.pg_calendar.specs.Texts.{padded_text, year_of_era}
use Rattle.pg_calendar.proofs.Padding.{two_pairs}
use Rattle.pg_text.proofs.date_forms.day_digits.Goals as goal

pub returns : goal.returns
returns c =
    let year : c.in_ok-year.year ≡ year_of_era c.args.date.year = search rules in
    let digits : padded_text 4 (year_of_era c.args.date.year)
    ≡ c.in_ok-y0.y0 ∷ c.in_ok-y0.y1 ∷ c.in_ok-y2.y2 ∷ c.in_ok-y2.y3 ∷ [] =
    ap (padded_text 4) (sym year) ∙ two_pairs c.in_ok-year.year (omega arith)
    ∙ (λ i. c.in_ok-y0.ensures i ++ c.in_ok-y2.ensures i) in
    rw (digits, c.in_ok-m0.ensures, c.in_ok-d0.ensures)
