-- What the proof of `push_field` answers by hand.
use Rattle.pg_copy.proofs.CompositeSteps.{null_field, some_field}
use Rattle.pg_copy.proofs.RecordFaults.{number_passed}
use Rattle.pg_base.specs.Cells.{cell_of}
use Rattle.pg_copy.specs.Composites.{type_fault}
use Rattle.pg_copy.specs.ReadingSteps.{TakesText}
use Rattle.pg_types.specs.Content.{content}
use Rattle.std.proofs.Common.{inl, inr, subst}
use Rattle.std.proofs.lemmas.Option.{IfSome_then}
use Rattle.std.proofs.lemmas.Result.{err_from_is_err_and}
use Rattle.pg_copy.proofs.RecordFaults.{number_refused}
use Rattle.pg_copy.proofs.RefusalLaws.{cell_fault}
use Rattle.pg_copy.specs.CellRefusals.{RefusesAs}
use Rattle.pg_copy.specs.Composites.{RefusesField, field_values}
use Rattle.pg_types.specs.Faults.{refusal_of}
use Rattle.pg_copy.proofs.show.push_field.Goals as goal

pub returns-in-None-clause-ok : goal.returns-in-None-clause-ok
returns-in-None-clause-ok c =
    let field = c.args.field.now in
    let raw = c.args.raw.now.now in
    let mid = c.take_oid.new.raw.now in
    let new = c.take_value.new.row.now in
    let oid = number_passed (type_fault (content field.ty) raw) raw mid c.in_ok-take_oid.ensures in
    null_field field raw mid new oid.0 oid.1 c.args.text.now.items
    (subst (λ o. TakesText (field_values field) (content field.ty) mid (cell_of o) new) c.in-None.is
    c.in_ok-take_value.ensures.ok)

pub returns-in_ok-push_field-in-Some-clause-ok : goal.returns-in_ok-push_field-in-Some-clause-ok
returns-in_ok-push_field-in-Some-clause-ok c =
    let field = c.args.field.now in
    let raw = c.args.raw.now.now in
    let mid = c.take_oid.new.raw.now in
    let new = c.take_value.new.row.now in
    let oid = number_passed (type_fault (content field.ty) raw) raw mid c.in_ok-take_oid.ensures in
    some_field field raw mid new oid.0 oid.1 c.args.text.now.items c.in-Some.field_text.now c.push_field.new.out.items
    (subst (λ o. TakesText (field_values field) (content field.ty) mid (cell_of o) new) c.in-Some.is
    c.in_ok-take_value.ensures.ok)
    c.in_ok-push_field-in-Some.ensures

pub returns-in_err-take_oid-clause-err : goal.returns-in_err-take_oid-clause-err
returns-in_err-take_oid-clause-err c =
    let field = c.args.field.now in
    let raw = c.args.raw.now.now in
    let p = err_from_is_err_and c.from_residual.result c.from_residual.ensures.1 in
    rw (p.1, p.2) (number_refused (RefusesField field raw) (type_fault (content field.ty) raw) raw
    c.take_oid.new.raw.now c.in_err-take_oid.field-0.0 c.in_err-take_oid.ensures (λ r e. inl e))

pub returns-in_err-take_value-clause-err : goal.returns-in_err-take_value-clause-err
returns-in_err-take_value-clause-err c =
    let field = c.args.field.now in
    let raw = c.args.raw.now.now in
    let fault = c.in_err-take_value.field-0.0 in
    let oid = number_passed (type_fault (content field.ty) raw) raw c.take_oid.new.raw.now c.in_ok-take_oid.ensures in
    let p = err_from_is_err_and c.from_residual-in_err-take_value.result c.from_residual-in_err-take_value.ensures.1 in
    rw (p.1, p.2) (IfSome_then (refusal_of fault)
    (cell_fault (field_values field) (content field.ty) c.take_oid.new.raw.now fault c.in_err-take_value.ensures.err)
    (λ r q. inr (oid.0, subst (λ s. RefusesAs (field_values field) (content field.ty) s r) oid.1 q)))
