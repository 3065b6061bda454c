-- What the proof of `pgc_cidr_write` answers by hand.
use Rattle.std.specs.Prelude.{refl}
use Rattle.pg_cells_c.proofs.NetworkSteps.{no_network}
use Rattle.pg_cells_c.specs.Writings.{no_cell}
use Rattle.pg_cells_c.proofs.network.pgc_cidr_write.Goals as goal

pub returns-then-not-is_network : goal.returns-then-not-is_network
returns-then-not-is_network c =
    no_network c.args.cidr.now c.args.out.now c.args.out.now no_cell c.if-not-is_network.ensures refl refl
