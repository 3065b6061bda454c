-- What the proof of `ended_is_message` answers by hand.
use Rattle.pg_messages.proofs.MessageLaws.{ended_is_message}
use Rattle.pg_messages.proofs.laws.ended_is_message.Goals as goal

pub returns : goal.returns
returns c = ended_is_message
