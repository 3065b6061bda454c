-- What the proof of `bits_are_read_back` answers by hand.
use Rattle.pg_text.proofs.ReadBack.{bits_back}
use Rattle.pg_text.proofs.bits.bits_are_read_back.Goals as goal

pub returns : goal.returns
returns c = bits_back
