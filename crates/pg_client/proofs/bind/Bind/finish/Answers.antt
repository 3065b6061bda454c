-- What the proof of `finish` answers by hand.
use Rattle.pg_client.proofs.BindLaws.{bind_ended}
use Rattle.pg_client.proofs.bind.Bind.finish.Goals as goal

pub returns-clause-ok : goal.returns-clause-ok
returns-clause-ok c = bind_ended c.args.self c.end.new.out.items c.end.result c.end.ensures.ok
