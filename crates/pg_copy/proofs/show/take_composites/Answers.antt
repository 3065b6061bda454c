-- What the proof of `take_composites` answers by hand.
use Rattle.std.proofs.Common.{Err, drop, subst}
use Rattle.std.proofs.lemmas.Result.{err_from_is_err_and}
use Rattle.std.specs.Prelude.{IfSome}
use Rattle.pg_copy.proofs.ArrayBounds.{untrue}
use Rattle.pg_copy.proofs.CellTexts.{shown_alone}
use Rattle.pg_copy.proofs.CompositeSteps.{records_taken}
use Rattle.pg_copy.proofs.RecordFaults.{records_bound, records_refused}
use Rattle.pg_copy.specs.Composites.{ReadsElement, ShowsRecord}
use Rattle.pg_copy.specs.Values.{HasOtherBound}
use Rattle.pg_text.specs.Lists.{ShowsArray}
use Rattle.pg_types.specs.Faults.{refusal_of}
use Rattle.postgres_types.specs.ArrayReading.{ReadsAll}
use Rattle.pg_copy.proofs.show.take_composites.Goals as goal

pub returns-clause-ok : goal.returns-clause-ok
returns-clause-ok c =
    let shown = shown_alone (ShowsArray (λ r. ShowsRecord c.args.fields.now r.now)) _ _ c.clear.new.self.items
    c.push_records.new.text.items c.as_slice-in-Some-2.result.now c.as_slice.ensures.value c.clear.ensures.items
    c.as_slice-in-Some-2.ensures.value c.in_ok-push_records-in-Some-2.ensures.ok in
    records_taken c.args.fields.now c.args.row.now.now c.take_records.new.row.now c.as_slice-in-Some-2.result.now
    c.in_ok-take_records.field-0 c.in-Some.field-0 c.in-Some.is c.in_ok-take_records.ensures.ok
    (untrue c.has_other_lower_bound.result (HasOtherBound (drop 4 c.args.row.now.now)) c.has_other_lower_bound.ensures
    c.if-has_other_lower_bound.false)
    shown

pub returns-in-Some-clause-err : goal.returns-in-Some-clause-err
returns-in-Some-clause-err c =
    λ ty. records_bound c.args.fields.now c.args.row.now.now c.take_records.new.row.now c.other_lower_bound.result ty
    c.in_ok-take_records.field-0 c.in-Some.field-0 c.in-Some.is c.in_ok-take_records.ensures.ok
    (c.has_other_lower_bound.ensures.0 c.if-has_other_lower_bound.true) c.other_lower_bound.ensures

pub returns-in_err-push_records-in-Some-2-clause-err : goal.returns-in_err-push_records-in-Some-2-clause-err
returns-in_err-push_records-in-Some-2-clause-err c =
    let p = err_from_is_err_and c.from_residual-in_err-push_records-in-Some-2.result
    c.from_residual-in_err-push_records-in-Some-2.ensures.1 in
    let fault = c.in_err-push_records-in-Some-2.field-0.0 in
    let refused = subst (λ vs. IfSome (refusal_of fault)
    (λ r. ReadsAll (ReadsElement c.args.fields.now) vs (Err r))) c.as_slice.ensures.value
    c.in_err-push_records-in-Some-2.ensures.err in
    λ ty. rw (p.1, p.2) (records_refused c.args.fields.now c.args.row.now.now c.take_records.new.row.now fault ty
    c.in_ok-take_records.field-0 c.in-Some.field-0 c.in-Some.is c.in_ok-take_records.ensures.ok
    (untrue c.has_other_lower_bound.result (HasOtherBound (drop 4 c.args.row.now.now)) c.has_other_lower_bound.ensures
    c.if-has_other_lower_bound.false) refused)
