-- What the proof of `read_number` answers by hand.
use Rattle.pg_numbers.proofs.ReadNumbers.{read_counts}
use Rattle.pg_numbers.proofs.numeric.laws.read_number.Goals as goal

pub returns : goal.returns
returns c = read_counts c.args.raw.now c.numeric_from_sql.result c.numeric_from_sql.ensures
