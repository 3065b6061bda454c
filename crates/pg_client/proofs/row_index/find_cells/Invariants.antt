-- The invariant of `find_cells`: the offsets of so many cells are known.
use Rattle.pg_client.specs.RowOffsets.{FoundTo}
use Rattle.pg_client.proofs.row_index.find_cells.Given as goal

abbrev pub invariant-loop-place : goal.invariant-loop-place
invariant-loop-place l = FoundTo l.place l.frames l.offsets.items l.rest
