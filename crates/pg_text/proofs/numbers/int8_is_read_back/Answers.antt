-- What the proof of `int8_is_read_back` answers by hand.
use Rattle.pg_text.proofs.ReadBack.{int8_back}
use Rattle.pg_text.proofs.numbers.int8_is_read_back.Goals as goal

pub returns : goal.returns
returns c = int8_back
