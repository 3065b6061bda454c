-- What the proof of `ElementItem::at` answers by hand.
use Rattle.std.proofs.Common.{sym, subst, ◌∙◌}
use Rattle.std.specs.Prelude.{◌-◌, drop, length}
use Rattle.pg_cells_c.proofs.WalkSteps.{element_is}
use Rattle.pg_cells_c.specs.Walks.{SpellsElement, StartsItem}
use Rattle.pg_cells_c.proofs.items.ElementItem.at.Goals as goal

pub returns-clause-outcome : goal.returns-clause-outcome
returns-clause-outcome c =
    let b = c.args.cell.now in
    let p = c.in_ok-element.ensures.outcome in
    let after = c.in_ok-element.after.now in
    subst (λ v. StartsItem (SpellsElement b) b (drop c.args.offset b) (v, length b - length after))
    (sym c.element_before.ensures)
    (element_is b p.0 after c.args.offset c.in_ok-element.element (sym c.bytes_from.ensures ∙ p.1) p.2)
