-- What the loop of `trim_end` keeps.
use Rattle.std.proofs.Common.{◌≡◌, vec_len}
use Rattle.pg_numbers.specs.Numeric.{without_trailing}
use Rattle.pg_numbers.proofs.numeric.trim_end.Given as goal

abbrev pub invariant-loop-digits : goal.invariant-loop-digits
invariant-loop-digits l = without_trailing l.digits.items ≡ without_trailing l.initial.digits.items

abbrev pub decreases-loop-digits : goal.decreases-loop-digits
decreases-loop-digits l = vec_len l.digits
