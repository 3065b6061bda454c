-- What the proof of `write_day` answers by hand.
use Rattle.std.proofs.Common.{◌≡◌, refl, rules}
use Rattle.pg_calendar.specs.Texts.{year_of_era}
use Rattle.pg_calendar.proofs.Padding.{padded_hole}
use Rattle.pg_calendar.proofs.text.write_day.Goals as goal

pub returns : goal.returns
returns g c = λ plain ok.
    let year : c.year_of_era-year.result ≡ year_of_era c.args.date.year = search rules in
    rw (
      c.laid_out.ensures,
      c.laid_out-2.ensures,
      c.laid_out-3.ensures,
      padded_hole 4 c.year_of_era-year.result refl,
      padded_hole 2 c.args.date.month refl,
      padded_hole 2 c.args.date.day refl,
      year,
    ) at c.write.ensures.writes plain ok
