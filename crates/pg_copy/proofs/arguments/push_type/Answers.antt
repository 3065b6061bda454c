-- What the proof of `push_type` answers by hand.
use Rattle.std.proofs.Common.{false, inl, refl, true}
use Rattle.pg_copy.proofs.ArgumentLaws.{appended}
use Rattle.pg_copy.proofs.arguments.push_type.Goals as goal

pub returns-in_ok-push-in-Ok : goal.returns-in_ok-push-in-Ok
returns-in_ok-push-in-Ok c = inl (c.in-Ok.column, c.in-Ok.ensures.ok, c.in_ok-push-in-Ok.ensures.items, refl)

pub returns-in-Err-Unknown : goal.returns-in-Err-Unknown
returns-in-Err-Unknown c =
    appended c.push_refused.result c.args.number c.args.ty.now.now false c.args.columns.now.items
    c.args.refused.now.items c.push_refused.new.refused.items (rw c.in-Err-Unknown.field-0-is at c.in-Err-Unknown.ensures.err) c.push_refused.ensures

pub returns-in-Err-Nested : goal.returns-in-Err-Nested
returns-in-Err-Nested c =
    appended c.push_refused-in-Err-Nested.result c.args.number c.args.ty.now.now true c.args.columns.now.items
    c.args.refused.now.items c.push_refused-in-Err-Nested.new.refused.items (rw c.in-Err-Nested.field-0-is at c.in-Err-Nested.ensures.err)
    c.push_refused-in-Err-Nested.ensures
