-- What the proof of `timestamp_micros` answers by hand.
use Rattle.std.specs.Prelude.{refl}
use Rattle.std.proofs.Common.{rules, ◌≡◌, w64, to_z, of_z}
use Rattle.pg_cells_c.proofs.DateSteps.{no_finite, no_time}
use Rattle.pg_cells_c.proofs.date_parts.timestamp_micros.Goals as goal

pub returns-in_default-micros_of-clause-outcome : goal.returns-in_default-micros_of-clause-outcome
returns-in_default-micros_of-clause-outcome c = (refl, no_time c.args.parts.now c.in_default-micros_of.ensures)

pub returns-in-None-clause-outcome : goal.returns-in-None-clause-outcome
returns-in-None-clause-outcome c =
    let day : to_z w64 (of_z w64 c.in-Some.day) ≡ c.in-Some.day = search rules in
    let time : to_z w64 (of_z w64 c.in-Some-micros_of.time) ≡ c.in-Some-micros_of.time = search rules in (
      refl,
      no_finite c.args.parts.now c.in-Some.day c.in-Some-micros_of.time c.in-Some.ensures.1
          c.in-Some-micros_of.ensures.1.3 (rw (day, time) at c.in-None.ensures),
    )
