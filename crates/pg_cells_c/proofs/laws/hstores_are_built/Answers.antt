-- What the proof of `hstores_are_built` answers by hand.
use Rattle.std.specs.Prelude.{is_none}
use Rattle.pg_cells_c.proofs.BuiltLaws.{hstore_closes}
use Rattle.pg_cells_c.proofs.BuiltSteps.{opened_builds, push_builds}
use Rattle.pg_cells_c.specs.Builders.{count_width, entry_bytes}
use Rattle.pg_cells_c.proofs.laws.hstores_are_built.Goals as goal

pub returns-clause-opened : goal.returns-clause-opened
returns-clause-opened c = opened_builds entry_bytes (λ e. is_none e.1) count_width

pub returns-clause-pushed : goal.returns-clause-pushed
returns-clause-pushed c = push_builds entry_bytes (λ e. is_none e.1) count_width

pub returns-clause-closed : goal.returns-clause-closed
returns-clause-closed c = hstore_closes
