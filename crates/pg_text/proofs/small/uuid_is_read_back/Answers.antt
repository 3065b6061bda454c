-- What the proof of `uuid_is_read_back` answers by hand.
use Rattle.pg_text.proofs.ReadBack.{uuid_back}
use Rattle.pg_text.proofs.small.uuid_is_read_back.Goals as goal

pub returns : goal.returns
returns c = uuid_back
