-- What the proof of `BitVec::to_text` answers by hand.
use Rattle.std.proofs.Common.{sym, ◌∙◌}
use Rattle.pg_text.proofs.BitTexts.{bits_step}
use Rattle.pg_text.proofs.bits.BitVecToText.to_text.Goals as goal

pub loop-place-preserved : goal.loop-place-preserved
loop-place-preserved c =
    bits_step c.args.self.now c.loop-place.place c.in-Some.bit c.bit_digit.result c.args.out.now.items
    c.loop-place.out.items c.push.new.self.items (sym c.get.ensures ∙ c.in-Some.is) c.bit_digit.ensures
    c.loop-place.invariant c.in_ok-push.ensures.items
