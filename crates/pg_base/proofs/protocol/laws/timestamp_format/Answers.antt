-- What the proof of `timestamp_format` answers by hand.
use Rattle.pg_base.proofs.TimestampsLaws.{timestamp_grammar}
use Rattle.pg_base.proofs.protocol.laws.timestamp_format.Goals as goal

pub returns-clause-grammar : goal.returns-clause-grammar
returns-clause-grammar c = timestamp_grammar (λ nanos. nanos)
