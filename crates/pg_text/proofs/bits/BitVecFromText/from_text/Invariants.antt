-- The loop of `BitVec::from_text`: the bits have the digits before this one.
use Rattle.std.proofs.Common.{◌≡◌, take}
use Rattle.pg_base.specs.Bits.{bits_text}
use Rattle.pg_text.proofs.bits.BitVecFromText.from_text.Given as goal

abbrev pub invariant-loop-digit : goal.invariant-loop-digit
invariant-loop-digit l = take l.digit-index l.digits ≡ bits_text l.bits
