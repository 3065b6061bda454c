-- What the proof of `macaddr_is_read_back` answers by hand.
use Rattle.pg_text.proofs.Macaddrs.{macaddr_back}
use Rattle.pg_text.proofs.network.macaddr_is_read_back.Goals as goal

pub returns : goal.returns
returns c = macaddr_back
