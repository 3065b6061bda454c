-- What the proof of `push` answers by hand.
use Rattle.pg_client.proofs.BindLaws.{binds_more}
use Rattle.pg_types.specs.Content.{content}
use Rattle.pg_client.specs.Binding.{param_wire}
use Rattle.postgres_types.specs.Writing.{checked}
use Rattle.pg_client.proofs.bind.Bind.push.Goals as goal

pub returns-in-Ok-clause-binds : goal.returns-in-Ok-clause-binds
returns-in-Ok-clause-binds g c = λ before cells h.
    let ty = content c.args.ty.now in
    let w = param_wire c.args.self.now.count (g.T.ToSql.format ty c.args.value.now)
    (checked g.T.ToSql.accepted g.T.ToSql.name g.T.ToSql.wire ty c.args.value.now) in
    binds_more w before cells c.args.self.now c.append.new.self h c.in-Ok.ensures.frame c.append.ensures.at
    c.in-Ok.ensures.counted
