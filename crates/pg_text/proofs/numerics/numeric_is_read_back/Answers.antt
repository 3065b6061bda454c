-- What the proof of `numeric_is_read_back` answers by hand.
use Rattle.pg_text.proofs.ReadBack.{numeric_back}
use Rattle.pg_text.proofs.numerics.numeric_is_read_back.Goals as goal

pub returns : goal.returns
returns c = numeric_back
