-- What the proof of `without_decimals` answers by hand.
use Rattle.std.proofs.Common.{sym, arith}
use Rattle.pg_numbers.proofs.Digits.{without_all}
use Rattle.pg_numbers.proofs.numeric.without_decimals.Goals as goal

pub returns-in_default : goal.returns-in_default
returns-in_default c = sym (without_all c.args.count c.args.digit (omega arith) c.requires)
