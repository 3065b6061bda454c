-- What the proof of `string_is_read` answers by hand.
use Rattle.pg_messages.proofs.MessageLaws.{string_is_read}
use Rattle.pg_messages.proofs.laws.string_is_read.Goals as goal

pub returns : goal.returns
returns c = string_is_read
