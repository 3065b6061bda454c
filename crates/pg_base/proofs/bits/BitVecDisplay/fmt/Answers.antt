-- What the proof of `BitVec`'s `fmt` answers by hand.
use Rattle.std.proofs.Common.{refl, sym, ◌∙◌}
use Rattle.std.proofs.Output.{has_written_append, has_written_of_eq}
use Rattle.pg_base.proofs.BitTexts.{bits_more}
use Rattle.pg_base.proofs.bits.BitVecDisplay.fmt.Goals as goal

pub loop-place-preserved : goal.loop-place-preserved
loop-place-preserved g c = λ plain.
    let so_far = c.loop-place.invariant plain in
    let digit = rw c.bit_text.ensures at c.in_ok-write_str.ensures.writes so_far.plain refl in
    let step = bits_more c.args.self.now c.loop-place.place c.in-Some.bit (sym c.get.ensures ∙ c.in-Some.is) in
    has_written_of_eq _ _ _ _ _ (sym step) (has_written_append _ _ _ _ _ _ so_far digit)
