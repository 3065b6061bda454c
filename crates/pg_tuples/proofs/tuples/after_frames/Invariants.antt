-- The invariant of `after_frames`: so many frames stand before what is left.
use Rattle.pg_tuples.specs.Tuples.{FramesThen}
use Rattle.pg_tuples.proofs.tuples.after_frames.Given as goal

abbrev pub invariant-loop-place : goal.invariant-loop-place
invariant-loop-place l = FramesThen l.bytes l.place l.rest
