-- What the proof of `push_record` answers by hand.
use Rattle.std.proofs.Common.{[], ◌∷◌, ◌++◌}
use Rattle.pg_copy.proofs.CompositeSteps.{shown_step, taken_step}
use Rattle.pg_copy.specs.Composites.{ShowsField}
use Rattle.pg_base.specs.Counts.{after_number}
use Rattle.pg_text.proofs.Joins.{zip_more}
use Rattle.std.proofs.Common.{arith, inl, inr, length, subst}
use Rattle.std.proofs.lemmas.List.{take_all}
use Rattle.std.specs.List.{AllZip}
use Rattle.std.proofs.lemmas.Option.{IfSome_then}
use Rattle.std.proofs.lemmas.Result.{err_from_is_err_and}
use Rattle.pg_base.specs.Counts.{no_trailing}
use Rattle.pg_base.specs.Formats.{first_fault_of}
use Rattle.pg_copy.proofs.RecordFaults.{check_refused, end_refused, next_refused, number_passed, number_refused}
use Rattle.pg_copy.specs.Composites.{RefusesRecord}
use Rattle.pg_types.specs.Faults.{refusal_of}
use Rattle.postgres_types.specs.Records.{count_fault}
use Rattle.pg_copy.proofs.show.push_record.Goals as goal

pub loop-place-preserved : goal.loop-place-preserved
loop-place-preserved c =
    let fields = c.args.fields.now in
    let i = c.loop-place.place in
    let before = c.loop-place.invariant in
    let field = c.in_ok-push_field.ensures.ok in (
      before.0 ++ field.0 ∷ [],
      zip_more ShowsField fields before.0 i c.index-fields-place.result field.0 c.loop-place-test.true
          c.index-fields-place.is before.1 field.1,
      taken_step (λ part. part.0) before.0 field.0 (after_number c.args.raw.now) c.loop-place.rest.now
          c.push_field.new.raw.now before.2 field.2,
      shown_step ShowsField (λ part. part.1) fields before.0 i field.0 (c.args.text.now.items ++ 40 ∷ [])
          c.loop-place.text.items c.push_separator.new.out.items c.push_field.new.text.items c.loop-place-test.true
          before.1 before.3 c.in_ok-push_separator.ensures field.3,
    )

pub returns-in_err-read_field_count-clause-err : goal.returns-in_err-read_field_count-clause-err
returns-in_err-read_field_count-clause-err c =
    let fields = c.args.fields.now in
    let raw = c.args.raw.now in
    let p = err_from_is_err_and c.from_residual.result c.from_residual.ensures.1 in
    rw (p.1, p.2) (number_refused (RefusesRecord fields raw) (count_fault (length fields) raw) raw
    c.read_field_count.new.buf.now c.in_err-read_field_count.field-0.0 c.in_err-read_field_count.ensures (λ r e. inl e))

pub returns-in_err-push_field-clause-err : goal.returns-in_err-push_field-clause-err
returns-in_err-push_field-clause-err c =
    let fields = c.args.fields.now in
    let raw = c.args.raw.now in
    let before = c.loop-place.invariant in
    let counted = number_passed (count_fault (length fields) raw) raw c.read_field_count.new.buf.now
    c.in_ok-read_field_count.ensures in
    let p = err_from_is_err_and c.from_residual-in_err-push_field.result c.from_residual-in_err-push_field.ensures.1 in
    rw (p.1, p.2) (IfSome_then (refusal_of c.in_err-push_field.field-0.0) c.in_err-push_field.ensures.err
    (λ r q. inr (
      counted.0,
      next_refused fields before.0 (after_number raw) c.loop-place.rest.now r before.2
          c.loop-place.place c.index-fields-place.result c.loop-place-test.true c.index-fields-place.is before.1 q,
    )))

pub returns-in_err-read_end-clause-err : goal.returns-in_err-read_end-clause-err
returns-in_err-read_end-clause-err c =
    let fields = c.args.fields.now in
    let raw = c.args.raw.now in
    let after = c.loop-place.invariant in
    let counted = number_passed (count_fault (length fields) raw) raw c.read_field_count.new.buf.now
    c.in_ok-read_field_count.ensures in
    let rest = c.loop-place.rest.now in
    let all = subst (λ fs. AllZip ShowsField fs after.0)
    (take_all c.loop-place.place fields (omega (arith, c.loop-place-test.false))) after.1 in
    let p = err_from_is_err_and c.from_residual-in_err-read_end.result c.from_residual-in_err-read_end.ensures.1 in
    rw (p.1, p.2) (check_refused (RefusesRecord fields raw) (first_fault_of (no_trailing rest ∷ []))
    c.in_err-read_end.field-0.0 c.in_err-read_end.ensures
    (λ r e. inr (counted.0, end_refused fields after.0 (after_number raw) rest r after.2 all e)))
