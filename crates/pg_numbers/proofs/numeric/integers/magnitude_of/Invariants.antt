-- What the loop of `magnitude_of` keeps.
use Rattle.std.proofs.Common.{◌≡◌, ◌+◌, ◌-◌, ◌*◌, ◌^◌, ◌-ℤ◌, drop, pos}
use Rattle.pg_numbers.specs.Numeric.{units}
use Rattle.pg_numbers.proofs.numeric.integers.magnitude_of.Given as goal

abbrev pub invariant-loop-at : goal.invariant-loop-at
invariant-loop-at l =
    l.magnitude * 10 ^ (4 * (l.count - l.at) + l.v.scale) + units (l.v.weight -ℤ pos l.at) l.v.scale
    (drop l.at l.digits)
    ≡ units l.v.weight l.v.scale l.digits
