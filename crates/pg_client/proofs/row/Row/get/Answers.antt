-- What the proof of `get` answers by hand.
use Rattle.std.proofs.Common.{subst}
use Rattle.pg_client.proofs.RowLaws.{front_read, if_some}
use Rattle.pg_client.specs.Rows.{FreeAs, PassesCells, ReadsAs}
use Rattle.pg_types.specs.Content.{content}
use Rattle.pg_client.proofs.row.Row.get.Goals as goal

pub returns-clause-column : goal.returns-clause-column
returns-clause-column g c =
    let frames = c.args.self.now.frames.now in
    let rest = c.pass_cells.new.buf.now in
    let ty = content c.in-Some.column.now.ty in
    let passed = subst (λ r. PassesCells c.args.place frames r rest) c.in_default-pass_cells.is c.pass_cells.ensures in
    if_some _ _ _ c.in-Some.ensures.some (front_read c.args.place c.args.self.now.columns.now
    (ReadsAs (g.T.FromSql.accepted ty) ty (g.T.FromSql.reads ty))
    (FreeAs (g.T.FromSql.accepted ty) ty g.T.FromSql.memory_free) frames c.read_column.result passed.0 rest passed.1
    passed.2 c.read_column.ensures)
