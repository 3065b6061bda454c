-- The loop of `BitVec`'s `fmt`: the digits of the first bits are written.
use Rattle.std.proofs.Common.{take}
use Rattle.std.specs.Fmt.{HasWritten, IsPlainFormatter}
use Rattle.pg_base.specs.Bits.{bits_text}
use Rattle.pg_base.proofs.bits.BitVecDisplay.fmt.Given as goal

abbrev pub invariant-loop-place : goal.invariant-loop-place
invariant-loop-place g l =
    IsPlainFormatter l.fn.f → HasWritten g.W.Write.write_str_gives l.fn.f (bits_text (take l.place l.self)) l.f
