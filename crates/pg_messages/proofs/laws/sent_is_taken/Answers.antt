-- What the proof of `sent_is_taken` answers by hand.
use Rattle.pg_messages.proofs.MessageLaws.{sent_is_taken}
use Rattle.pg_messages.proofs.laws.sent_is_taken.Goals as goal

pub returns : goal.returns
returns c = sent_is_taken
