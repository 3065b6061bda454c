-- What the proof of `body_len` answers by hand.
use Rattle.pg_messages.specs.Fields.{field_form}
use Rattle.pg_messages.proofs.Forms.{none_counted, one_counted}
use Rattle.pg_messages.proofs.field.body_len.Goals as goal

pub loop-field-init : goal.loop-field-init
loop-field-init c = none_counted field_form c.args.fields.now

pub loop-field-preserved : goal.loop-field-preserved
loop-field-preserved c =
    rw c.saturating_add-len.ensures (
    one_counted field_form c.args.fields.now c.loop-field.field-index c.loop-field.len _ _ c.loop-field-test.true
    c.in_ok-field_len.ensures c.loop-field.invariant
    )
