-- What the proof of `days_of` answers by hand.
use Rattle.std.specs.Prelude.{refl}
use Rattle.std.proofs.Common.{rules, ◌≡◌, w64, to_z, of_z}
use Rattle.pg_cells_c.proofs.DateSteps.{no_date}
use Rattle.pg_cells_c.proofs.date_parts.days_of.Goals as goal

pub returns-in-None-clause-outcome : goal.returns-in-None-clause-outcome
returns-in-None-clause-outcome c =
    let day : to_z w64 (of_z w64 c.in-Some.day) ≡ c.in-Some.day = search rules in
    (refl, no_date c.args.date.now c.in-Some.day c.in-Some.ensures.1 (rw day at c.in-None.ensures))
