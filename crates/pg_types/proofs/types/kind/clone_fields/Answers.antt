-- What the proof of `clone_fields` answers by hand.
use Rattle.std.proofs.Common.{take}
use Rattle.std.proofs.lemmas.List.{take_more}
use Rattle.pg_types.proofs.Fields.{fields_more}
use Rattle.pg_types.proofs.types.kind.clone_fields.Goals as goal

pub loop-field-preserved : goal.loop-field-preserved
loop-field-preserved c =
    let xs = c.args.fields.now in
    let i = c.loop-field.field-index in
    let copy = c.in_ok-try_clone.ensures.same in
    let more = fields_more c.loop-field.copies.items
    (take i xs) c.in_ok-try_clone.field-0 c.field-item.result c.loop-field.invariant copy in
    let next = take_more xs i c.field-item.result c.loop-field-test.true in
    cc (c.in_ok-push.ensures.items, c.field-item.is)
