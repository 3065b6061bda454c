-- The loop of `extend_by_oids`: the OIDs so far were appended.
use Rattle.pg_messages.specs.Fields.{oid_form}
use Rattle.pg_messages.proofs.Forms.{Extended}
use Rattle.pg_messages.proofs.field.extend_by_oids.Given as goal

abbrev pub invariant-loop-oid : goal.invariant-loop-oid
invariant-loop-oid l = Extended oid_form l.oids l.oid-index l.fn.out l.out
