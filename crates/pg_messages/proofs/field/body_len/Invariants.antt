-- The loop of `body_len`: the fields so far are counted.
use Rattle.pg_messages.specs.Fields.{field_form}
use Rattle.pg_messages.proofs.Forms.{Counted}
use Rattle.pg_messages.proofs.field.body_len.Given as goal

abbrev pub invariant-loop-field : goal.invariant-loop-field
invariant-loop-field l = Counted field_form l.fields l.field-index l.len
