-- What the proof of `write_whole` answers by hand.
use Rattle.std.proofs.KnownBytes.{Appends-kept}
use Rattle.streams.proofs.Sent.{sent_more}
use Rattle.streams.proofs.blocks.write_whole.Goals.{in-Ok, in-Err}
use Rattle.streams.proofs.blocks.write_whole.Goals as goal

pub turns-preserved : goal.turns-preserved
turns-preserved g c =
    let before = c.turns.invariant in
    elim c.match-write.branch [
      | in-Ok w ↦ sent_more _ _ _ _ _ _ _ before.0 w.in-Ok.ensures.bound before.1 w.in-Ok.ensures.bytes w.sent-is
      | in-Err w ↦ rw w.sent-is (before.0, Appends-kept _ _ _ _ before.1 w.in-Err.ensures.bytes)
    ]
