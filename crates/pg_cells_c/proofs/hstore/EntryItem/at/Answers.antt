-- What the proof of `EntryItem::at` answers by hand.
use Rattle.std.proofs.Common.{◌≡◌, ◌∙◌, sym, subst}
use Rattle.std.specs.Prelude.{◌-◌, drop, length, Some}
use Rattle.std.proofs.lemmas.Option.{IfSome_then}
use Rattle.std.proofs.lemmas.Result.{err_from_is_err_and}
use Rattle.pg_base.specs.Formats.{first_fault_of}
use Rattle.pg_base.specs.Hstore.{entry_checks, value_checks}
use Rattle.pg_types.specs.Faults.{refusal_of}
use Rattle.pg_base.proofs.HstoreLaws.{key_fault, value_fault}
use Rattle.pg_cells_c.proofs.WalkSteps.{entry_is}
use Rattle.pg_cells_c.specs.Walks.{SpellsEntryAt, StartsItem, element_of}
use Rattle.pg_cells_c.proofs.hstore.EntryItem.at.Goals as goal

pub returns-in_err-key-clause-outcome : goal.returns-in_err-key-clause-outcome
returns-in_err-key-clause-outcome c =
    let p = err_from_is_err_and c.from_residual.result c.from_residual.ensures.1 in
    rw (p.1, p.2) (IfSome_then (refusal_of c.in_err-key.field-0.0) c.in_err-key.ensures.outcome
    (λ r e. key_fault (drop c.args.offset c.args.cell.now) r
    (subst (λ s. first_fault_of (value_checks s) ≡ Some r) c.bytes_from.ensures e)))

pub returns-in_err-value-clause-outcome : goal.returns-in_err-value-clause-outcome
returns-in_err-value-clause-outcome c =
    let p = err_from_is_err_and c.from_residual-in_err-value.result c.from_residual-in_err-value.ensures.1 in
    let key = rw c.in-Some.is at c.in_ok-key.ensures.outcome in
    rw (p.1, p.2) (IfSome_then (refusal_of c.in_err-value.field-0.0) c.in_err-value.ensures.outcome
    (λ r e. subst (λ s. first_fault_of (entry_checks s) ≡ Some r) (sym key.1 ∙ c.bytes_from.ensures)
    (value_fault key.0 c.in_ok-key.rest.now c.in-Some.key.now r key.2 e)))

pub returns-clause-outcome : goal.returns-clause-outcome
returns-clause-outcome c =
    let b = c.args.cell.now in
    let off = c.args.offset in
    let key = rw c.in-Some.is at c.in_ok-key.ensures.outcome in
    let value = c.in_ok-value.ensures.outcome in
    let rest = c.in_ok-key.rest.now in
    let after = c.in_ok-value.after.now in
    let next = length b - length after in
    subst (λ k. StartsItem (SpellsEntryAt b) b (drop off b)
    (record { key = k.bytes; value = c.element_before-value.result }, next)) (sym c.element_before.ensures)
    (subst (λ v. StartsItem (SpellsEntryAt b) b (drop off b)
    (record { key = (element_of (length b - length rest) (Some c.in-Some.key)).bytes; value = v }, next))
    (sym c.element_before-value.ensures)
    (entry_is b key.0 rest value.0 after off c.in-Some.key c.in_ok-value.value
    (sym c.bytes_from.ensures ∙ key.1) key.2 value.1 value.2))
