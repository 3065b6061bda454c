-- What the loop of `hide` keeps.
use Rattle.std.proofs.Common.{◌≡◌, ◌<◌, ◌≤◌, ℕ, get_or, pos, ◌-ℤ◌}
use Rattle.pg_numbers.specs.Numeric.{hidden, without_decimals}
use Rattle.pg_numbers.proofs.numeric.hide.Given as goal

abbrev pub invariant-loop-at : goal.invariant-loop-at
invariant-loop-at l =
    ((k : ℕ) → k < l.at
    → get_or l.digits k 0 ≡ without_decimals (hidden (l.weight -ℤ pos k) l.scale) (get_or l.initial.digits k 0))
    × ((k : ℕ) → l.at ≤ k → get_or l.digits k 0 ≡ get_or l.initial.digits k 0)
