-- What the proof of `take_array_as` answers by hand.
use Rattle.std.proofs.Common.{Ok, Some, drop, inr, subst}
use Rattle.std.proofs.lemmas.Option.{IfSome_then}
use Rattle.std.proofs.lemmas.Result.{err_from_is_err_and}
use Rattle.pg_copy.proofs.ArrayBounds.{array_refused, bound_refused, bound_shown, untrue}
use Rattle.pg_copy.proofs.CellTexts.{shown_alone, value_taken}
use Rattle.pg_copy.specs.Values.{HasOtherBound, ReadsVec}
use Rattle.pg_text.specs.Lists.{ShowsArray}
use Rattle.postgres_types.specs.Content.{content}
use Rattle.postgres_types.specs.Faults.{refusal_of}
use Rattle.postgres_types.specs.FrameReading.{ReadsFrame}
use Rattle.postgres_types.specs.OptionReading.{ReadsOption}
use Rattle.pg_copy.proofs.show.take_array_as.Goals as goal

pub returns-in_ok-push_array-in-Some-2-clause-ok : goal.returns-in_ok-push_array-in-Some-2-clause-ok
returns-in_ok-push_array-in-Some-2-clause-ok g c =
    let list = ReadsVec (λ element. ReadsOption (g.T.FromSql.reads element)) (content c.args.ty.now) in
    let read = subst (λ v. ReadsFrame (ReadsOption list) _ c.args.row.now.now (Ok v) c.read_value.new.buf.now)
    c.in-Some.is
    c.in_ok-read_value.ensures in
    let taken = value_taken list _ c.args.row.now.now c.read_value.new.buf.now c.in-Some.field-0 read in
    let shown = shown_alone (ShowsArray g.T.ToText.shows) _ _ c.clear.new.self.items c.push_array.new.out.items
    c.as_slice-in-Some-2.result.now c.as_slice.ensures.value c.clear.ensures.items c.as_slice-in-Some-2.ensures.value
    c.in_ok-push_array-in-Some-2.ensures in
    let of_bound_one = bound_shown (λ element. ReadsOption (g.T.FromSql.reads element)) (content c.args.ty.now)
    c.args.row.now.now taken.0 c.read_value.new.buf.now c.in-Some.field-0 taken.1 taken.2
    (untrue c.has_other_lower_bound.result (HasOtherBound (drop 4 c.args.row.now.now)) c.has_other_lower_bound.ensures
    c.if-has_other_lower_bound.false) in
    (Some taken.0, taken.1, (c.in-Some.field-0, of_bound_one, shown))

pub returns-in-Some-clause-accepted : goal.returns-in-Some-clause-accepted
returns-in-Some-clause-accepted g c =
    let list = ReadsVec (λ element. ReadsOption (g.T.FromSql.reads element)) (content c.args.ty.now) in
    let read = subst (λ v. ReadsFrame (ReadsOption list) _ c.args.row.now.now (Ok v) c.read_value.new.buf.now)
    c.in-Some.is
    c.in_ok-read_value.ensures in
    λ accepted. bound_refused (λ element. ReadsOption (g.T.FromSql.reads element)) (content c.args.ty.now) _
    c.args.row.now.now
    c.read_value.new.buf.now c.in-Some.field-0 c.other_lower_bound.result (λ v. ShowsArray g.T.ToText.shows v.items) read
    (c.has_other_lower_bound.ensures.0 c.if-has_other_lower_bound.true) c.other_lower_bound.ensures

pub returns-in-Some-clause-err : goal.returns-in-Some-clause-err
returns-in-Some-clause-err g c =
    let list = ReadsVec (λ element. ReadsOption (g.T.FromSql.reads element)) (content c.args.ty.now) in
    let read = subst (λ v. ReadsFrame (ReadsOption list) _ c.args.row.now.now (Ok v) c.read_value.new.buf.now)
    c.in-Some.is
    c.in_ok-read_value.ensures in
    IfSome_then (refusal_of c.other_lower_bound.result)
    (bound_refused (λ element. ReadsOption (g.T.FromSql.reads element)) (content c.args.ty.now) _ c.args.row.now.now
    c.read_value.new.buf.now c.in-Some.field-0 c.other_lower_bound.result (λ v. ShowsArray g.T.ToText.shows v.items) read
    (c.has_other_lower_bound.ensures.0 c.if-has_other_lower_bound.true) c.other_lower_bound.ensures) (λ r q. inr q)

pub returns-in_err-read_value-clause-accepted : goal.returns-in_err-read_value-clause-accepted
returns-in_err-read_value-clause-accepted g c =
    let p = err_from_is_err_and c.from_residual-in_err-read_value.result c.from_residual-in_err-read_value.ensures.1 in
    λ accepted. rw (p.1, p.2) (array_refused (λ element. ReadsOption (g.T.FromSql.reads element))
    (content c.args.ty.now) c.args.row.now.now (λ v. ShowsArray g.T.ToText.shows v.items) _ c.read_value.new.buf.now
    c.in_err-read_value.field-0.0 c.in_err-read_value.ensures)

pub returns-in_err-read_value-clause-err : goal.returns-in_err-read_value-clause-err
returns-in_err-read_value-clause-err g c =
    let p = err_from_is_err_and c.from_residual-in_err-read_value.result c.from_residual-in_err-read_value.ensures.1 in
    rw (p.1, p.2) (IfSome_then (refusal_of c.in_err-read_value.field-0.0)
    (array_refused (λ element. ReadsOption (g.T.FromSql.reads element)) (content c.args.ty.now) c.args.row.now.now
    (λ v. ShowsArray g.T.ToText.shows v.items) _ c.read_value.new.buf.now c.in_err-read_value.field-0.0
    c.in_err-read_value.ensures) (λ r q. inr q))
