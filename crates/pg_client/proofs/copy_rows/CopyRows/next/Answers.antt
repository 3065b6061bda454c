-- What the proof of `next` answers by hand.
use Rattle.std.proofs.Common.{Some, ap, length, subst, sym, ◌∙◌}
use Rattle.std.proofs.lemmas.Bool.Decides.{Decides-eqb}
use Rattle.pg_client.proofs.CopyLaws.{copy_ends, row_next}
use Rattle.pg_tuples.specs.Reading.{StandsAt}
use Rattle.pg_client.proofs.copy_rows.CopyRows.next.Goals as goal

pub returns-in-Ok-Tuple-clause-reads : goal.returns-in-Ok-Tuple-clause-reads
returns-in-Ok-Tuple-clause-reads c = λ bytes rows so_far.
    let copy = c.args.self.now in
    let row = c.in-Ok-Tuple.frames.now in
    let rest = c.in-Ok-Tuple.rest.now in
    let n = length copy.columns.now in
    let stands = subst (StandsAt n copy.rest.now) c.in-Ok-Tuple.field-0-is c.in-Ok-Tuple.ensures.ok in
    let next = row_next bytes copy.rest.now rows copy.count so_far n row rest stands.0 stands.1 in (
      next.0,
      (next.1, next.2 ∙ ap Some (sym c.unread.ensures.0), c.unread.ensures.1),
      next.3,
    )

pub returns-then-is_empty-clause-reads : goal.returns-then-is_empty-clause-reads
returns-then-is_empty-clause-reads c = λ bytes rows so_far.
    let copy = c.args.self.now in
    let after = c.in-Ok-Trailer.after.now in
    let stands = subst (StandsAt (length copy.columns.now) copy.rest.now) c.in-Ok-Trailer.field-0-is
    c.in-Ok-Trailer.ensures.ok in
    let none = (Decides-eqb (length after) 0).0 (sym c.is_empty.ensures ∙ c.if-is_empty.true) in
    (copy_ends bytes copy.rest.now rows copy.count so_far after stands none, so_far)
