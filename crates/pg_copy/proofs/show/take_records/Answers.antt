-- What the proof of `take_records` answers by hand.
use Rattle.pg_copy.proofs.Records.{list_refused, list_taken}
use Rattle.pg_copy.proofs.show.take_records.Goals as goal

pub returns-clause-ok : goal.returns-clause-ok
returns-clause-ok c = list_taken _ c.args.row.now.now _ c.read_value.result c.read_value.ensures

pub returns-clause-err : goal.returns-clause-err
returns-clause-err c = list_refused _ c.args.row.now.now _ c.read_value.result c.read_value.ensures
