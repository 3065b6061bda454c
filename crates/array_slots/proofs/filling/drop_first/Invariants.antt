-- The invariant and the measure of `drop_first`.
use Prim.Native.Nat.{◌-◌, ◌≤◌}
use Rattle.core.specs.Mem.Slots.{SamePlaces}
use Rattle.core.specs.Mem.Slots.Ownership.{Filled}
use Rattle.array_slots.proofs.filling.drop_first.Given as goal

-- the places are the same, and those that are still to be emptied hold their values
abbrev pub invariant-loop-i : goal.invariant-loop-i
invariant-loop-i g l =
    SamePlaces l.fn.places l.places × (l.count ≤ l.places.len) × Filled l.places.filled l.i l.count

abbrev pub decreases-loop-i : goal.decreases-loop-i
decreases-loop-i g l = l.count - l.i
