-- What the proof of `FieldItem::at` answers by hand.
use Rattle.std.proofs.Common.{◌≡◌, ◌∙◌, sym, subst}
use Rattle.std.specs.Prelude.{◌-◌, ◌∷◌, [], drop, length, Some}
use Rattle.std.proofs.lemmas.Option.{IfSome_then}
use Rattle.std.proofs.lemmas.Result.{err_from_is_err_and}
use Rattle.pg_base.specs.Counts.{has_number}
use Rattle.pg_base.specs.Formats.{first_fault_of}
use Rattle.pg_types.specs.Faults.{refusal_of, size}
use Rattle.pg_cells_c.proofs.RecordSteps.{field_is, oid_fault, value_fault}
use Rattle.pg_cells_c.specs.Records.{SpellsFieldAt}
use Rattle.pg_cells_c.specs.Walks.{StartsItem}
use Rattle.pg_cells_c.proofs.records.FieldItem.at.Goals as goal

pub returns-in_err-oid-clause-outcome : goal.returns-in_err-oid-clause-outcome
returns-in_err-oid-clause-outcome c =
    let p = err_from_is_err_and c.from_residual.result c.from_residual.ensures.1 in
    rw (p.1, p.2) (IfSome_then (refusal_of c.in_err-oid.field-0.0) c.in_err-oid.ensures.outcome
    (λ r e. oid_fault (drop c.args.offset c.args.cell.now) r
    (subst (λ s. first_fault_of ((has_number s, size) ∷ []) ≡ Some r) c.bytes_from.ensures e)))

pub returns-in_err-value-clause-outcome : goal.returns-in_err-value-clause-outcome
returns-in_err-value-clause-outcome c =
    let p = err_from_is_err_and c.from_residual-in_err-value.result c.from_residual-in_err-value.ensures.1 in
    let oid = c.in_ok-oid.ensures.outcome in
    rw (p.1, p.2) (IfSome_then (refusal_of c.in_err-value.field-0.0) c.in_err-value.ensures.outcome
    (λ r e. value_fault (drop c.args.offset c.args.cell.now) oid.0 c.in_ok-oid.rest.now c.in_ok-oid.oid r
    (sym c.bytes_from.ensures ∙ oid.1) oid.2 e))

pub returns-clause-outcome : goal.returns-clause-outcome
returns-clause-outcome c =
    let b = c.args.cell.now in
    let oid = c.in_ok-oid.ensures.outcome in
    let value = c.in_ok-value.ensures.outcome in
    let after = c.in_ok-value.after.now in
    let next = length b - length after in
    subst (λ v. StartsItem (SpellsFieldAt b) b (drop c.args.offset b) (record { oid = c.in_ok-oid.oid; value = v }, next))
    (sym c.element_before-value.ensures)
    (field_is b oid.0 c.in_ok-oid.rest.now value.0 after c.args.offset c.in_ok-oid.oid c.in_ok-value.value
    (sym c.bytes_from.ensures ∙ oid.1) oid.2 value.1 value.2)
