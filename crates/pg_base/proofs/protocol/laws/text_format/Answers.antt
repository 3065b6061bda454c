-- What the proof of `text_format` answers by hand.
use Rattle.pg_base.proofs.FormatLaws.{text_grammar}
use Rattle.pg_base.proofs.protocol.laws.text_format.Goals as goal

pub returns-clause-grammar : goal.returns-clause-grammar
returns-clause-grammar c = text_grammar (λ s. s)
