-- What the proof of `rewrite_cell` answers by hand.
use Rattle.pg_cells_c.proofs.KindSteps.{kind_written}
use Rattle.pg_cells_c.proofs.rewrite.cells.rewrite_cell.Goals as goal
use Rattle.std.specs.Prelude.{refl}
use Rattle.pg_cells_c.specs.declared.rewrite.kinds.Kind.TheVariants as kind

pub returns-in-Bytea : goal.returns-in-Bytea
returns-in-Bytea c = rw c.in-Bytea.is (kind_written kind.Bytea c.args.cell.now c.args.out.now c.write.new.out c.write.result refl c.write.ensures)
