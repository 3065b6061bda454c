-- What the proof of `take_tuple` answers by hand.
use Rattle.std.proofs.Common.{◌++◌, ◌∷◌, [], Some, ap, length, refl, subst, sym, ◌∙◌}
use Rattle.std.proofs.lemmas.Result.{err_from_is_err_and}
use Rattle.pg_client.proofs.CopyLaws.{tuple_taken}
use Rattle.pg_client.proofs.PartLaws.{awaits, one_more, refused}
use Rattle.pg_client.specs.CopyParts.{IsTaken}
use Rattle.pg_tuples.specs.Reading.{StandsAt}
use Rattle.pg_tuples.specs.Tuples.{trailer}
use Rattle.pg_client.proofs.copy_parts.CopyParts.take_tuple.Goals as goal

pub returns-in-Ok-Tuple-clause-reads : goal.returns-in-Ok-Tuple-clause-reads
returns-in-Ok-Tuple-clause-reads c = λ taken rows begun count.
    let parts = c.args.self.now in
    let bytes = c.args.bytes.now.now in
    let n = length parts.columns.now in
    let stands = subst (StandsAt n bytes) c.in-Ok-Tuple.field-0-is c.in-Ok-Tuple.ensures.ok in
    let next = tuple_taken taken bytes rows begun n c.in-Ok-Tuple.frames.now c.in-Ok-Tuple.rest.now stands.0
    stands.1 in (
      next.0,
      next.1,
      (
        next.2,
        (next.3, next.4 ∙ ap Some (sym c.unread.ensures.0), c.unread.ensures.1),
        (
          subst (λ st. IsTaken st (rows ++ next.2 ∷ []) (taken ++ next.0)) (sym c.requires) next.5,
          one_more parts.count c.saturating_add-row.result rows next.2 c.saturating_add-row.ensures count,
        ),
      ),
    )

pub returns-in_ok-check_end-in-Ok-Trailer-clause-reads : goal.returns-in_ok-check_end-in-Ok-Trailer-clause-reads
returns-in_ok-check_end-in-Ok-Trailer-clause-reads c = λ taken rows begun count.
    let stands = subst (StandsAt (length c.args.self.now.columns.now) c.args.bytes.now.now) c.in-Ok-Trailer.field-0-is
    c.in-Ok-Trailer.ensures.ok in
    (trailer, stands, (((taken, begun, refl), count), c.in_ok-check_end-in-Ok-Trailer.ensures.ok))

pub returns-in_err-check_end-in-Ok-Trailer-clause-reads : goal.returns-in_err-check_end-in-Ok-Trailer-clause-reads
returns-in_err-check_end-in-Ok-Trailer-clause-reads c = λ taken rows begun count.
    let p = err_from_is_err_and c.from_residual.result c.from_residual.ensures.1 in
    let stands = subst (StandsAt (length c.args.self.now.columns.now) c.args.bytes.now.now) c.in-Ok-Trailer.field-0-is
    c.in-Ok-Trailer.ensures.ok in
    rw (p.1, p.2)
    (trailer, stands, (((taken, begun, refl), count), c.in_err-check_end-in-Ok-Trailer.ensures.err))

pub returns-in-Ok-Part-clause-reads : goal.returns-in-Ok-Part-clause-reads
returns-in-Ok-Part-clause-reads c = λ taken rows begun count.
    awaits taken rows c.args.self.now c.requires begun count c.args.bytes.now.now
    (subst (StandsAt (length c.args.self.now.columns.now) c.args.bytes.now.now) c.in-Ok-Part.field-0-is
    c.in-Ok-Part.ensures.ok)

pub returns-in-Err-clause-reads : goal.returns-in-Err-clause-reads
returns-in-Err-clause-reads c = λ taken rows begun count.
    refused taken rows c.args.self.now c.requires begun count c.args.bytes.now.now c.saturating_add-row.result
    c.in-Err.fault c.saturating_add-row.ensures c.in-Err.ensures.refused
