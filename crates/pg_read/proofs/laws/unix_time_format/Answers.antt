-- What the proof of `unix_time_format` answers by hand.
use Rattle.pg_base.specs.Numbers.{first_fault_number}
use Rattle.pg_base.specs.Timestamps.{FormTimestamp, nanos_of}
use Rattle.pg_read.specs.Laws.Reading.{value_from_outcome}
use Rattle.pg_read.proofs.laws.unix_time_format.Goals as goal

pub returns : goal.returns
returns c =
    value_from_outcome (FormTimestamp nanos_of) (first_fault_number 8) c.args.raw.now
    c.cell_has_outcome.ensures.0 c.cell_has_outcome.ensures.1
