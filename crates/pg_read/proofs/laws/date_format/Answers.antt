-- What the proof of `date_format` answers by hand.
use Rattle.std.specs.Int.{w32}
use Rattle.pg_base.specs.Civil.{FormCount, first_fault_count}
use Rattle.pg_base.specs.Civil.{first_day, last_day, IsDayOf}
use Rattle.pg_read.specs.Laws.Reading.{value_from_outcome}
use Rattle.pg_read.proofs.laws.date_format.Goals as goal

pub returns : goal.returns
returns c =
    value_from_outcome (FormCount w32 first_day last_day IsDayOf)
    (first_fault_count w32 first_day last_day) c.args.raw.now
    c.cell_has_outcome.ensures.0 c.cell_has_outcome.ensures.1
