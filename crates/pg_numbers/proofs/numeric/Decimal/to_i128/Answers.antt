-- What the proof of `Decimal::to_i128` answers by hand.
use Rattle.std.specs.Int.{w128}
use Rattle.pg_numbers.proofs.NoIntegers.{integer_answer}
use Rattle.pg_numbers.proofs.numeric.Decimal.to_i128.Goals as goal

pub returns : goal.returns
returns c =
    integer_answer w128 c.args.self.now c.in_ok-magnitude.magnitude c.is_negative.result c.with_sign.result
    c.in_ok-magnitude.ensures c.is_negative.ensures c.with_sign.ensures
