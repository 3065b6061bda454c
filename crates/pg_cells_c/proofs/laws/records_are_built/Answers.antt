-- What the proof of `records_are_built` answers by hand.
use Rattle.std.specs.Prelude.{is_none, Some, refl}
use Rattle.pg_cells_c.proofs.BuiltLaws.{record_closes}
use Rattle.pg_cells_c.proofs.BuiltSteps.{opened_builds, push_builds, written_builds}
use Rattle.pg_cells_c.specs.Builders.{count_width, field_bytes}
use Rattle.pg_cells_c.proofs.laws.records_are_built.Goals as goal

pub returns-clause-opened : goal.returns-clause-opened
returns-clause-opened c = opened_builds field_bytes (λ f. is_none f.1) count_width

pub returns-clause-pushed : goal.returns-clause-pushed
returns-clause-pushed c = push_builds field_bytes (λ f. is_none f.1) count_width

pub returns-clause-written : goal.returns-clause-written
returns-clause-written c =
    λ oid. written_builds field_bytes (λ f. is_none f.1) count_width (λ cell. (oid, Some cell)) 8
    (λ cell. refl)

pub returns-clause-closed : goal.returns-clause-closed
returns-clause-closed c = record_closes
