-- What the proof of `int2_is_read_back` answers by hand.
use Rattle.pg_text.proofs.ReadBack.{int2_back}
use Rattle.pg_text.proofs.numbers.int2_is_read_back.Goals as goal

pub returns : goal.returns
returns c = int2_back
