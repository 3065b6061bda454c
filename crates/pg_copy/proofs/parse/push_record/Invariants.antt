-- The loop of `push_record`: the fields before this one were appended, of which the items were taken.
use Rattle.std.proofs.Common.{◌++◌, length, pos}
use Rattle.std.specs.Int.{w32}
use Rattle.pg_base.specs.Cells.{be}
use Rattle.pg_copy.proofs.WrittenRecords.{SoFar}
use Rattle.pg_copy.proofs.parse.push_record.Given as goal

abbrev pub invariant-loop-place : goal.invariant-loop-place
invariant-loop-place l =
    SoFar l.fields l.initial.rest (l.fn.out.items ++ be w32 (pos (length l.fields))) l.place l.rest l.out.items
