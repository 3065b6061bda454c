-- What the proof of `BitVec::new` answers by hand.
use Rattle.std.proofs.Common.{refl}
use Rattle.pg_base.specs.Bits.{first_bits, packed}
use Rattle.pg_base.proofs.bits.BitVec.new.Goals as goal

pub invariant_of-result : goal.invariant_of-result
unfolding first_bits packed
invariant_of-result c = c.new.ensures.items

pub returns : goal.returns
unfolding first_bits
returns c = refl
