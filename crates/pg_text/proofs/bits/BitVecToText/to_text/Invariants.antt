-- The loop of `BitVec::to_text`: the digits of the bits before this place stand there.
use Rattle.std.proofs.Common.{◌≡◌, ◌++◌, take}
use Rattle.pg_base.specs.Bits.{bits_text}
use Rattle.pg_text.proofs.bits.BitVecToText.to_text.Given as goal

abbrev pub invariant-loop-place : goal.invariant-loop-place
invariant-loop-place l = l.out.items ≡ l.fn.out.items ++ bits_text (take l.place l.self)
