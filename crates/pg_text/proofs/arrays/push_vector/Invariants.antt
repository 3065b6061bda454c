-- The loop of `push_vector`: the numbers before this one stand there.
use Rattle.std.proofs.Common.{◌≡◌, ◌++◌, take}
use Rattle.pg_text.specs.Lists.{vector_text}
use Rattle.pg_text.proofs.arrays.push_vector.Given as goal

abbrev pub invariant-loop-place : goal.invariant-loop-place
invariant-loop-place g l = l.out.items ≡ l.fn.out.items ++ vector_text g.I.Integer.text (take l.place l.numbers)
