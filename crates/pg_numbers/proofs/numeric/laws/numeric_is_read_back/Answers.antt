-- What the proof of `numeric_is_read_back` answers by hand.
use Rattle.pg_numbers.proofs.ValueTexts.{value_back, value_once}
use Rattle.pg_numbers.proofs.numeric.laws.numeric_is_read_back.Goals as goal

pub returns : goal.returns
returns c = record { reads = value_back; once = value_once }
