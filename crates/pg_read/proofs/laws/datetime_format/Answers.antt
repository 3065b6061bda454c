-- What the proof of `datetime_format` answers by hand.
use Rattle.jiff.specs.Words.{civil_nanos}
use Rattle.pg_base.specs.Timestamps.{IsAfterBase}
use Rattle.std.specs.Int.{w64}
use Rattle.pg_base.specs.Civil.{FormCount, first_fault_count}
use Rattle.pg_base.specs.Civil.{first_civil, last_civil}
use Rattle.pg_read.specs.Laws.Reading.{value_from_outcome}
use Rattle.pg_read.proofs.laws.datetime_format.Goals as goal

pub returns : goal.returns
returns c =
    value_from_outcome (FormCount w64 first_civil last_civil (IsAfterBase civil_nanos))
    (first_fault_count w64 first_civil last_civil) c.args.raw.now
    c.cell_has_outcome.ensures.0 c.cell_has_outcome.ensures.1
