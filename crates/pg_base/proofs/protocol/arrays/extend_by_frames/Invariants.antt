-- The invariants and measures of `extend_by_frames`.
use Rattle.std.proofs.Common.{drop}
use Rattle.pg_base.specs.Arrays.{cells_of}
use Rattle.pg_base.specs.Cells.{frames}
use Rattle.pg_base.proofs.CellsByLength.{HasNone, IsFramedUpTo}
use Rattle.pg_base.proofs.protocol.arrays.extend_by_frames.Given as goal

-- the frames of the cells so far were appended, and the rest is the bytes of the others; a NULL was met, or is to come,
-- or there is none
abbrev pub invariant-loop-len : goal.invariant-loop-len
invariant-loop-len l =
    IsFramedUpTo (frames (cells_of l.scratch l.lens)) l.rest (drop l.len-index l.lens) l.initial.out l.out
    × HasNone l.has_null l.lens (drop l.len-index l.lens)
