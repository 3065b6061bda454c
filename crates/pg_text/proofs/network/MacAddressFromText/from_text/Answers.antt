-- What the proof of `MacAddressFromText::from_text` answers by hand.
use Rattle.std.proofs.lemmas.Result.{MatchResult-weaker}
use Rattle.pg_text.proofs.network.MacAddressFromText.from_text.Goals as goal

pub returns : goal.returns
returns c =
    MatchResult-weaker c.parse.result c.parse.ensures.value (λ v says. says)
    (λ fault none some. absurd (none.0 some.0 some.1))
