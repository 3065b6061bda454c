-- What the proof of `lsn_is_read_back` answers by hand.
use Rattle.pg_text.proofs.ReadBack.{lsn_back}
use Rattle.pg_text.proofs.small.lsn_is_read_back.Goals as goal

pub returns : goal.returns
returns c = lsn_back
