-- What the proof of `VecU32FromText::from_text` answers by hand.
use Rattle.std.proofs.lemmas.Result.{MatchResult-weaker}
use Rattle.pg_text.proofs.VectorTexts.{oidvector_parsed}
use Rattle.pg_text.proofs.arrays.VecU32FromText.from_text.Goals as goal

pub returns : goal.returns
returns c =
    MatchResult-weaker c.parse_vector.result c.parse_vector.ensures (λ v says. says)
    (λ fault why says. why (oidvector_parsed c.args.text.now says))
