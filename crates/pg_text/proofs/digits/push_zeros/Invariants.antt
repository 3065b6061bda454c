-- The loop of `push_zeros`: so many zeros stand there.
use Rattle.std.proofs.Common.{◌≡◌, ◌++◌, replicate}
use Rattle.pg_text.proofs.digits.push_zeros.Given as goal

abbrev pub invariant-loop-place : goal.invariant-loop-place
invariant-loop-place l = l.out.items ≡ l.fn.out.items ++ replicate l.place 48
