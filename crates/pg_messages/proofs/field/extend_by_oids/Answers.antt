-- What the proof of `extend_by_oids` answers by hand.
use Rattle.std.proofs.Common.{◌++◌, ap, ◌∙◌, arith, length}
use Rattle.pg_messages.specs.Fields.{oid_form}
use Rattle.pg_messages.proofs.Forms.{none_extended, one_extended}
use Rattle.pg_messages.proofs.field.extend_by_oids.Goals as goal

pub loop-oid-init : goal.loop-oid-init
loop-oid-init c = none_extended oid_form c.args.oids.now c.args.out.now

pub loop-oid-preserved : goal.loop-oid-preserved
loop-oid-preserved c =
    let number = c.to_be_bytes.ensures in
    let gained = c.extend_reserved.ensures in
    one_extended oid_form c.args.oids.now c.loop-oid.oid-index 0 c.args.out.now c.loop-oid.out c.extend_reserved.new.self
    c.loop-oid-test.true c.loop-oid.invariant (
      gained.items ∙ ap (λ b. c.loop-oid.out.items ++ b) number,
      omega (arith, gained.spare, ap length number),
    )
