-- What the proof of `after_frames` answers by hand.
use Rattle.std.proofs.Common.{[], refl}
use Rattle.pg_tuples.proofs.TupleLaws.{frames_next}
use Rattle.pg_tuples.proofs.tuples.after_frames.Goals as goal

pub loop-place-init : goal.loop-place-init
loop-place-init c = ([], [], refl, refl, refl)

pub loop-place-preserved : goal.loop-place-preserved
loop-place-preserved c = frames_next _ _ _ _ c.loop-place.invariant c.in-Some.ensures.some
