-- What the proof of `write_clock` answers by hand.
use Rattle.std.proofs.Common.{refl}
use Rattle.std.proofs.Output.{has_written_append}
use Rattle.pg_calendar.proofs.Padding.{padded_hole}
use Rattle.pg_calendar.proofs.text.write_clock.Goals as goal

pub returns : goal.returns
returns g c = λ plain ok.
    let first = rw (
      c.laid_out.ensures,
      c.laid_out-2.ensures,
      c.laid_out-3.ensures,
      padded_hole 2 c.args.clock.hour refl,
      padded_hole 2 c.args.clock.minute refl,
      padded_hole 2 c.args.clock.second refl,
    ) at c.in_ok-write.ensures.writes plain refl in
    has_written_append _ _ _ _ _ _ first (c.write_fraction.ensures first.plain ok)
