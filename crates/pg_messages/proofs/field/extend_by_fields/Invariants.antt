-- The loop of `extend_by_fields`: the fields so far were appended.
use Rattle.pg_messages.specs.Fields.{field_form}
use Rattle.pg_messages.proofs.Forms.{Extended}
use Rattle.pg_messages.proofs.field.extend_by_fields.Given as goal

abbrev pub invariant-loop-field : goal.invariant-loop-field
invariant-loop-field l = Extended field_form l.fields l.field-index l.fn.out l.out
