-- What the proof of `oid_is_read_back` answers by hand.
use Rattle.pg_text.proofs.ReadBack.{unsigned_back}
use Rattle.pg_text.proofs.numbers.oid_is_read_back.Goals as goal

pub returns : goal.returns
returns c = unsigned_back
