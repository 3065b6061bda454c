-- What the proof of `hstore_format` answers by hand.
use Rattle.pg_base.proofs.HstoreLaws.{hstore_grammar}
use Rattle.pg_base.proofs.protocol.laws.hstore_format.Goals as goal

pub returns-clause-grammar : goal.returns-clause-grammar
returns-clause-grammar c = hstore_grammar (λ m. m)
