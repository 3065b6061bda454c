-- What the proof of `bytea_is_read_back` answers by hand.
use Rattle.pg_text.proofs.ReadBack.{bytes_back}
use Rattle.pg_text.proofs.bytea.bytea_is_read_back.Goals as goal

pub returns : goal.returns
returns c = λ s text v small shown. bytes_back s.now text v.items small shown
