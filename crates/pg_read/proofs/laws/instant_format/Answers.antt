-- What the proof of `instant_format` answers by hand.
use Rattle.pg_base.specs.Timestamps.{IsAfterBase}
use Rattle.std.specs.Int.{w64}
use Rattle.pg_base.specs.Civil.{FormCount, first_fault_count}
use Rattle.pg_base.specs.Civil.{first_instant, last_instant, instant_nanos}
use Rattle.pg_read.specs.Laws.Reading.{value_from_outcome}
use Rattle.pg_read.proofs.laws.instant_format.Goals as goal

pub returns : goal.returns
returns c =
    value_from_outcome (FormCount w64 first_instant last_instant (IsAfterBase instant_nanos))
    (first_fault_count w64 first_instant last_instant) c.args.raw.now
    c.cell_has_outcome.ensures.0 c.cell_has_outcome.ensures.1
