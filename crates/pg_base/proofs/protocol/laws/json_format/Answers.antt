-- What the proof of `json_format` answers by hand.
use Rattle.pg_base.proofs.JsonLaws.{json_grammar}
use Rattle.pg_base.proofs.protocol.laws.json_format.Goals as goal

pub returns-clause-grammar : goal.returns-clause-grammar
returns-clause-grammar c = json_grammar (λ d. d)
