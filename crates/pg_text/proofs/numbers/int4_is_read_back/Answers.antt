-- What the proof of `int4_is_read_back` answers by hand.
use Rattle.pg_text.proofs.ReadBack.{int4_back}
use Rattle.pg_text.proofs.numbers.int4_is_read_back.Goals as goal

pub returns : goal.returns
returns c = int4_back
