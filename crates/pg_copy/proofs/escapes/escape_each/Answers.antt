-- What the proof of `escape_each` answers by hand.
use Rattle.std.proofs.Common.{refl, arith}
use Rattle.pg_copy.proofs.EscapeLaws.{escaped_next}
use Rattle.pg_copy.proofs.escapes.escape_each.Goals as goal

pub bytes-preserved : goal.bytes-preserved
bytes-preserved c =
    escaped_next c.args.text.now c.args.out.now.items c.bytes.out.items _ c.bytes.byte-index _ (omega arith) refl
    c.bytes.invariant c.in_ok-push_escaped.ensures.ok
