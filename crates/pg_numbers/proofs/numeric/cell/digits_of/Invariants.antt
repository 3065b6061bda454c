-- What the loop of `digits_of` keeps.
use Rattle.std.proofs.Common.{◌≡◌, ◌++◌, length}
use Rattle.pg_numbers.specs.NumericCells.{numbers_in}
use Rattle.pg_numbers.proofs.numeric.cell.digits_of.Given as goal

abbrev pub invariant-loop-left : goal.invariant-loop-left
invariant-loop-left l = l.digits.items ++ numbers_in l.left ≡ numbers_in l.fn.bytes

abbrev pub decreases-loop-left : goal.decreases-loop-left
decreases-loop-left l = length l.left
