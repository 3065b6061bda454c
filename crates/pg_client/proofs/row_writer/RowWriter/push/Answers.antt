-- What the proof of `push` answers by hand.
use Rattle.std.proofs.Common.{refl}
use Rattle.pg_client.proofs.RowSteps.{writes_more}
use Rattle.pg_client.specs.RowWriting.{value_wire}
use Rattle.pg_client.proofs.row_writer.RowWriter.push.Goals as goal

pub returns-in-Ok-clause-writes : goal.returns-in-Ok-clause-writes
returns-in-Ok-clause-writes g c = λ target types before cells h.
    writes_more
    (λ o. value_wire g.T.ToSql.accepted g.T.ToSql.name g.T.ToSql.wire g.T.ToSql.format o c.args.value.now)
    target types before cells c.args.self.now _ c.in-Some.ty.now c.in-Some.ensures.some h c.in-Ok.ensures.frame refl
    refl refl refl
