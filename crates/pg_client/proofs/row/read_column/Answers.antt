-- What the proof of `read_column` answers by hand.
use Rattle.std.proofs.Common.{inl, refl, subst, sym}
use Rattle.pg_base.specs.Cells.{cell_of}
use Rattle.pg_client.proofs.RowLaws.{place_at}
use Rattle.pg_client.specs.Places.{AnswersAt}
use Rattle.pg_client.specs.Rows.{ReadsAs}
use Rattle.pg_types.specs.Content.{content}
use Rattle.pg_client.proofs.row.read_column.Goals as goal

pub returns-in-Ok : goal.returns-in-Ok
returns-in-Ok g c =
    let cell = c.in-Ok.ensures in
    let rest = c.take_cell.new.buf.now in
    let ty = content c.args.column.now.ty in
    let reads = ReadsAs (g.T.FromSql.accepted ty) ty (g.T.FromSql.reads ty) in
    inl (
      cell_of c.in-Ok.cell,
      rest,
      record { front = cell.0; rest = rest; is = cell.1; spells = cell.2; rest_spells = refl },
      subst (λ p. AnswersAt p (reads (cell_of c.in-Ok.cell)) c.convert.result)
          (sym (place_at c.args.columns.now c.args.place c.args.column.now c.requires)) c.convert.ensures.outcome,
      c.convert.ensures.never_memory,
    )
