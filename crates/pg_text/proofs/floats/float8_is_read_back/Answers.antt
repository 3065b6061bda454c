-- What the proof of `float8_is_read_back` answers by hand.
use Rattle.pg_text.proofs.ReadBack.{float8_back}
use Rattle.pg_text.proofs.floats.float8_is_read_back.Goals as goal

pub returns : goal.returns
returns c = float8_back
