-- What the proof of `get` answers by hand.
use Rattle.std.proofs.Common.{◌≡◌, subst}
use Rattle.pg_base.specs.Cells.{SpellsAll}
use Rattle.pg_client.proofs.RowIndexLaws.{frame_there}
use Rattle.pg_client.proofs.RowLaws.{front_read, if_some}
use Rattle.pg_client.specs.Rows.{FreeAs, ReadsAs}
use Rattle.pg_types.specs.Content.{content}
use Rattle.pg_client.proofs.row_index.IndexedRow.get.Goals as goal

pub returns-in_default-frame_at-clause-column : goal.returns-in_default-frame_at-clause-column
returns-in_default-frame_at-clause-column g c = λ h.
    let f = frame_there c.args.self.now c.args.place c.in-Some.column.now c.in-Some.ensures.some h c.frame_at.result
    c.frame_at.ensures in
    let some = f.1 in
    let none = c.in_default-frame_at.is in
    let no : ⊥ = cc in
    absurd no

pub returns-clause-column : goal.returns-clause-column
returns-clause-column g c = λ h.
    let frames = c.args.self.now.frames.now in
    let ty = content c.in-Some.column.now.ty in
    let f = frame_there c.args.self.now c.args.place c.in-Some.column.now c.in-Some.ensures.some h c.frame_at.result
    c.frame_at.ensures in
    let some = f.1 in
    let is = c.in-Some-frame_at.is in
    let same : f.0 ≡ c.in-Some-frame_at.frame = cc in
    if_some _ _ _ c.in-Some.ensures.some (front_read c.args.place c.args.self.now.columns.now
    (ReadsAs (g.T.FromSql.accepted ty) ty (g.T.FromSql.reads ty))
    (FreeAs (g.T.FromSql.accepted ty) ty g.T.FromSql.memory_free) frames c.read_column.result f.2
    c.in-Some-frame_at.frame.now f.3 (subst (λ t. SpellsAll frames f.2 t.now) same f.4) c.read_column.ensures)
