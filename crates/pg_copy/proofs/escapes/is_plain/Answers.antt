-- What the proof of `is_plain` answers by hand.
use Rattle.pg_copy.proofs.EscapeTable.{plain_next}
use Rattle.pg_copy.proofs.escapes.is_plain.Goals as goal

pub bytes-preserved : goal.bytes-preserved
bytes-preserved c =
    plain_next c.args.text.now c.bytes.byte-index c.bytes.letters c.letter_at-letters.result c.bytes-test.true
    c.letter_at-letters.ensures c.bytes.invariant
