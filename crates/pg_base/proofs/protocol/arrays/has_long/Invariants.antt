-- The invariants and measures of `has_long`.
use Rattle.std.proofs.Common.{◌≡◌, false, take}
use Rattle.pg_base.specs.Arrays.{has_long}
use Rattle.pg_base.proofs.protocol.arrays.has_long.Given as goal

-- no length so far is too long
abbrev pub invariant-loop-len : goal.invariant-loop-len
invariant-loop-len l = has_long (take l.len-index l.lens) ≡ false
