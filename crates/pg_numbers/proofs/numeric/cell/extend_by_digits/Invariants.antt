-- What the loop of `extend_by_digits` keeps.
use Rattle.std.proofs.Common.{◌≡◌, ◌+◌, ◌*◌, ◌++◌, take}
use Rattle.pg_numbers.specs.NumericCells.{digit_bytes}
use Rattle.pg_numbers.proofs.numeric.cell.extend_by_digits.Given as goal

abbrev pub invariant-loop-digit : goal.invariant-loop-digit
invariant-loop-digit l =
    (l.out.items ≡ l.initial.out.items ++ digit_bytes (take l.digit-index l.digits))
    × (l.out.spare + 2 * l.digit-index ≡ l.initial.out.spare)
