-- What the proof of `macaddr8_is_read_back` answers by hand.
use Rattle.pg_more_types.proofs.Macaddr8Texts.{macaddr8_back}
use Rattle.pg_more_types.proofs.macaddr8.text.macaddr8_is_read_back.Goals as goal

pub returns : goal.returns
returns c = macaddr8_back
