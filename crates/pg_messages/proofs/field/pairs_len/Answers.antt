-- What the proof of `pairs_len` answers by hand.
use Rattle.pg_messages.specs.Fields.{pair_form}
use Rattle.pg_messages.proofs.Forms.{none_counted, one_counted, pair_counted}
use Rattle.pg_messages.proofs.field.pairs_len.Goals as goal

pub loop-name-init : goal.loop-name-init
loop-name-init c = none_counted pair_form c.args.pairs.now

pub loop-name-preserved : goal.loop-name-preserved
loop-name-preserved c =
    rw (c.saturating_add-len.ensures, c.saturating_add-pair.ensures) (
    one_counted pair_form c.args.pairs.now c.loop-name.name-index c.loop-name.len _ _ c.loop-name-test.true
    (pair_counted _ _ _ _ c.in_ok-name_len.ensures c.in_ok-string_len.ensures) c.loop-name.invariant
    )
