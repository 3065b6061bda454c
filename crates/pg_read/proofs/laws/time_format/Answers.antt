-- What the proof of `time_format` answers by hand.
use Rattle.std.specs.Prelude.{pos}
use Rattle.std.specs.Int.{w64}
use Rattle.pg_base.specs.Civil.{FormCount, first_fault_count}
use Rattle.pg_base.specs.Civil.{last_micros, IsAfterMidnight}
use Rattle.pg_read.specs.Laws.Reading.{value_from_outcome}
use Rattle.pg_read.proofs.laws.time_format.Goals as goal

pub returns : goal.returns
returns c =
    value_from_outcome (FormCount w64 (pos 0) last_micros IsAfterMidnight)
    (first_fault_count w64 (pos 0) last_micros) c.args.raw.now
    c.cell_has_outcome.ensures.0 c.cell_has_outcome.ensures.1
