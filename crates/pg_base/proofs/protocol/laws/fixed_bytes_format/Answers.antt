-- What the proof of `fixed_bytes_format` answers by hand.
use Rattle.pg_base.proofs.FixedBytesLaws.{fixed_bytes_grammar}
use Rattle.pg_base.proofs.protocol.laws.fixed_bytes_format.Goals as goal

pub returns-clause-grammar : goal.returns-clause-grammar
returns-clause-grammar c = fixed_bytes_grammar
