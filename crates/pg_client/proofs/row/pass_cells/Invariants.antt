-- The invariant of `pass_cells`: so many cells stand before what is left.
use Rattle.std.proofs.Common.{Ok}
use Rattle.pg_client.specs.Rows.{PassesCells}
use Rattle.pg_client.proofs.row.pass_cells.Given as goal

abbrev pub invariant-loop-passed : goal.invariant-loop-passed
invariant-loop-passed l = PassesCells l.passed l.initial.buf.now (Ok tt) l.buf.now
