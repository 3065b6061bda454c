-- What the proof of `rewrite` answers by hand.
use Rattle.pg_base.specs.Cells.{cell_of}
use Rattle.pg_types.specs.Content.{content}
use Rattle.postgres_types.proofs.RewritingLemmas.{again, written}
use Rattle.postgres_types.proofs.rewriting.rewrite.Goals as goal

pub returns-clause-written : goal.returns-clause-written
returns-clause-written g c = λ ok v read.
    let ty = content c.args.ty.now in
    let claim : g.claim c.lifetimes = assumption c.well_formed in
    let law = (g.met.T.Paired c.lifetimes claim).lawful ty ok in
    let single = (g.met.T.FromSql c.lifetimes claim).single ty ok in
    written g.T.FromSql.same (g.T.FromSql.reads ty) (g.T.ToSql.wire ty) (g.T.Paired.back ty) law single
    (cell_of c.args.raw) c.in_ok-value.value c.in_ok-value.ensures.outcome
    v c.args.out.now.items c.to_sql.new.out.items c.to_sql.result read c.to_sql.ensures.writes

pub returns-clause-again : goal.returns-clause-again
returns-clause-again g c = λ ok.
    let ty = content c.args.ty.now in
    let claim : g.claim c.lifetimes = assumption c.well_formed in
    let law = (g.met.T.Paired c.lifetimes claim).lawful ty ok in
    let single = (g.met.T.FromSql c.lifetimes claim).single ty ok in
    again g.T.FromSql.same (g.T.FromSql.reads ty) (g.T.ToSql.wire ty) (g.T.Paired.back ty) law single
    (cell_of c.args.raw) c.in_ok-value.value c.in_ok-value.ensures.outcome
    c.args.out.now.items c.to_sql.new.out.items c.to_sql.result c.to_sql.ensures.writes
