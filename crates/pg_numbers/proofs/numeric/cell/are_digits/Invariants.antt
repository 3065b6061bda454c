-- What the loop of `are_digits` keeps.
use Rattle.std.proofs.Common.{◌≡◌, length}
use Rattle.pg_numbers.specs.Numeric.{are_digits}
use Rattle.pg_numbers.specs.NumericCells.{numbers_in}
use Rattle.pg_numbers.proofs.numeric.cell.are_digits.Given as goal

abbrev pub invariant-loop-left : goal.invariant-loop-left
invariant-loop-left l = are_digits (numbers_in l.left) ≡ are_digits (numbers_in l.fn.bytes)

abbrev pub decreases-loop-left : goal.decreases-loop-left
decreases-loop-left l = length l.left
