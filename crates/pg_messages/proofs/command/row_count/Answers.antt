-- What the proof of `row_count` answers by hand.
use Rattle.pg_messages.proofs.CommandTags.{counted_in, none_in}
use Rattle.pg_messages.proofs.command.row_count.Goals as goal

pub returns-in-Some : goal.returns-in-Some
returns-in-Some c =
    counted_in c.args.tag.now c.as_bytes-bytes.result.now c.in-Some.space c.memrchr.result c.parse_number.result
    c.as_bytes-bytes.ensures.value c.in-Some.is c.memrchr.ensures c.parse_number.ensures

pub returns-in-None : goal.returns-in-None
returns-in-None c =
    none_in c.args.tag.now c.as_bytes-bytes.result.now c.memrchr.result c.as_bytes-bytes.ensures.value c.in-None.is
    c.memrchr.ensures
