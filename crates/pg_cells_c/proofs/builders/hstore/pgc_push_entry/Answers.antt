-- What the proof of `pgc_push_entry` answers by hand.
use Rattle.std.specs.Prelude.{Some, false}
use Rattle.pg_cells_c.proofs.PushSteps.{no_key}
use Rattle.pg_cells_c.proofs.builders.hstore.pgc_push_entry.Goals as goal

pub returns-in_default : goal.returns-in_default
returns-in_default c =
    no_key c.args.key.now (Some c.args.value.now) false c.args.builder.now c.args.out.now c.in_default.ensures
