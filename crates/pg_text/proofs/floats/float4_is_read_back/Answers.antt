-- What the proof of `float4_is_read_back` answers by hand.
use Rattle.pg_text.proofs.ReadBack.{float4_back}
use Rattle.pg_text.proofs.floats.float4_is_read_back.Goals as goal

pub returns : goal.returns
returns c = float4_back
