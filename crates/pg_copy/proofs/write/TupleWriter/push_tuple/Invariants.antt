-- The invariant of `push_tuple`: the frames of so many columns follow the number of columns.
use Rattle.std.proofs.Common.{◌≡◌, ◌++◌}
use Rattle.pg_copy.specs.WrittenCells.{text_of}
use Rattle.pg_copy.proofs.RowLaws.{SoFar}
use Rattle.pg_copy.proofs.write.TupleWriter.push_tuple.Given as goal

abbrev pub invariant-loop-place : goal.invariant-loop-place
invariant-loop-place l =
    (l.self.columns.now ≡ l.fn.self.columns.now)
    × SoFar l.fn.self.columns.now l.fn.line l.place (text_of l.rest) (l.fn.pending.items ++ l.fn.self.count)
    l.pending.items
