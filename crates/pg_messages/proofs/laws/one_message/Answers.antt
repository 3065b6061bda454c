-- What the proof of `one_message` answers by hand.
use Rattle.pg_messages.proofs.MessageLaws.{one_message}
use Rattle.pg_messages.proofs.laws.one_message.Goals as goal

pub returns : goal.returns
returns c = one_message
