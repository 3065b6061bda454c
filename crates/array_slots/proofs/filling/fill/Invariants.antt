-- The invariant and the measure of `fill`.
use Rattle.std.proofs.Common.{◌≡◌, ◌≤◌, ◌+◌, ◌-◌, List, ◌∷◌, length, take}
use Rattle.array_slots.specs.Sources.{GivesAll}
use Rattle.core.specs.Mem.Slots.{SamePlaces}
use Rattle.core.specs.Mem.Slots.Ownership.{Filled}
use Rattle.array_slots.proofs.filling.fill.Given as goal

-- the places are the same, those before i are filled, by the first element and those that the source gave, and it can
-- be asked for the next
abbrev pub invariant-loop-i : goal.invariant-loop-i
invariant-loop-i g l =
    SamePlaces l.fn.places l.places × (l.i ≤ l.places.len) × Filled l.places.filled 0 l.i
    × ((xs : List _) × (take l.i l.places.items ≡ l.fn.first ∷ xs) × (length xs + 1 ≡ l.i)
    × GivesAll g.S.ElementSource.gives l.fn.source xs l.source) × g.S.ElementSource.ready l.source

abbrev pub decreases-loop-i : goal.decreases-loop-i
decreases-loop-i g l = l.places.len - l.i
