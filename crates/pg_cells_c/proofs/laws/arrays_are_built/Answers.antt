-- What the proof of `arrays_are_built` answers by hand.
use Rattle.std.specs.Prelude.{is_none, Some, refl}
use Rattle.pg_base.specs.Cells.{frame}
use Rattle.pg_cells_c.proofs.BuiltLaws.{array_closes}
use Rattle.pg_cells_c.proofs.BuiltSteps.{opened_builds, push_builds, written_builds}
use Rattle.pg_cells_c.specs.Builders.{array_width}
use Rattle.pg_cells_c.proofs.laws.arrays_are_built.Goals as goal

pub returns-clause-opened : goal.returns-clause-opened
returns-clause-opened c = opened_builds frame is_none array_width

pub returns-clause-pushed : goal.returns-clause-pushed
returns-clause-pushed c = push_builds frame is_none array_width

pub returns-clause-written : goal.returns-clause-written
returns-clause-written c = written_builds frame is_none array_width (λ cell. Some cell) 4 (λ cell. refl)

pub returns-clause-closed : goal.returns-clause-closed
returns-clause-closed c = array_closes
