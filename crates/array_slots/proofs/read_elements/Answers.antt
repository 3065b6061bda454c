-- What the proof of `read_elements` answers by hand.
use Rattle.std.proofs.Common.{sym, ap, ◌∙◌, length, arith}
use Rattle.core.specs.Mem.Slots.{slots_counts}
use Rattle.array_slots.proofs.Chains.{first_and_others, in_words}
use Rattle.array_slots.proofs.read_elements.Goals as goal

pub returns-in-Some : goal.returns-in-Some
returns-in-Some g c =
    let lent = c.with_places.ensures in
    first_and_others g.S.ElementSource.gives g.S.ElementSource.stops _ _ c.in-Some.first g.row.N _ c.in-Some.ensures.0
    (in_words c.with_places.result
    (λ p h.
    let filled = h.0.1.1.1 in
    let long = ap length h.1 ∙ sym (slots_counts lent.1).0 ∙ h.0.1.0.count ∙ lent.2 in
    (long, (filled.0, h.1 ∙ filled.1, filled.2)))
    (λ s h.
    let stopped = h.1.1.1 in
    (stopped.0, stopped.1, stopped.2, omega (arith, stopped.3, lent.2), stopped.4)) lent.3)
