-- What the proof of `next` answers by hand.
use Rattle.std.proofs.Common.{◌∷◌, [], arith, inl, refl, subst, sym}
use Rattle.pg_base.specs.Cells.{cell_of}
use Rattle.pg_client.proofs.RowLaws.{if_none, if_some, place_at}
use Rattle.pg_client.specs.Places.{AnswersAt}
use Rattle.pg_client.specs.Rows.{ReadsAs}
use Rattle.pg_types.specs.Content.{content}
use Rattle.pg_client.proofs.row.Row.next.Goals as goal

pub returns-in-Ok-clause-column : goal.returns-in-Ok-clause-column
returns-in-Ok-clause-column g c =
    let row = c.args.self.now in
    let there = c.in-Some.ensures.some in
    let ty = content c.in-Some.column.now.ty in
    let reads = ReadsAs (g.T.FromSql.accepted ty) ty (g.T.FromSql.reads ty) in
    let cell = c.in-Ok.ensures in
    let rest = c.take_cell.new.buf.now in
    if_some _ _ _ there (record {
      cells = cell_of c.in-Ok.cell ∷ [];
      rest = rest;
      in_row = (
        record { front = cell.0; rest = rest; is = cell.1; spells = cell.2; rest_spells = refl },
        omega arith,
        inl refl,
      );
      holds = (
        subst (λ p. AnswersAt p (reads (cell_of c.in-Ok.cell)) c.convert.result)
            (sym (place_at row.columns.now row.taken c.in-Some.column.now there))
            c.convert.ensures.outcome,
        c.convert.ensures.never_memory,
        record { columns = refl; frames = refl; taken_is = refl; rest_is = refl },
      );
    })

pub returns-in-Ok-clause-no_column : goal.returns-in-Ok-clause-no_column
returns-in-Ok-clause-no_column g c = if_none _ _ _ c.in-Some.ensures.some

pub returns-in-Err-clause-no_column : goal.returns-in-Err-clause-no_column
returns-in-Err-clause-no_column g c = if_none _ _ _ c.in-Some.ensures.some
