-- What the proof of `extend_by_fields` answers by hand.
use Rattle.pg_messages.specs.Fields.{field_form}
use Rattle.pg_messages.proofs.Forms.{none_extended, one_extended, room}
use Rattle.pg_messages.proofs.field.extend_by_fields.Goals as goal

pub loop-field-init : goal.loop-field-init
loop-field-init c = none_extended field_form c.args.fields.now c.args.out.now

pub extend_by_field-requires : goal.extend_by_field-requires
extend_by_field-requires c =
    room field_form c.args.fields.now c.loop-field.field-index _ c.args.out.now c.loop-field.out c.loop-field-test.true
    c.requires c.loop-field.invariant

pub loop-field-preserved : goal.loop-field-preserved
loop-field-preserved c =
    one_extended field_form c.args.fields.now c.loop-field.field-index _ c.args.out.now c.loop-field.out
    c.extend_by_field.new.out c.loop-field-test.true c.loop-field.invariant c.extend_by_field.ensures
