-- What the proof of `take_tuples` answers by hand.
use Rattle.std.proofs.Common.{◌≡◌, ◌∙◌, length, refl, subst, sym, arith}
use Rattle.pg_copy.proofs.ReadingLaws.{advances_more, advances_none, row_taken, trailer_taken}
use Rattle.pg_copy.proofs.RefusalLaws.{front_refused, tuple_refused}
use Rattle.pg_copy.specs.ReadingSteps.{Advances, Awaits, StopsAt}
use Rattle.pg_copy.specs.Refusals.{UnlessMemory, next_row, tuple_fault}
use Rattle.pg_copy.specs.declared.copy_fault.Row.TheVariants.{Tuple}
use Rattle.pg_copy.specs.declared.read.Place.TheVariants.{End, Tuples}
use Rattle.pg_tuples.proofs.FrontLaws.{tuple_shorter}
use Rattle.pg_tuples.proofs.HeaderLaws.{answered}
use Rattle.pg_tuples.specs.Reading.{EndsInTuple, StandsAt}
use Rattle.pg_copy.proofs.read.Reading.take_tuples.Goals as goal

pub tuples-init : goal.tuples-init
tuples-init c = (
  refl,
  c.in-Tuples.is,
  advances_none c.args.self.now.columns.now Tuples c.args.self.now.row c.args.bytes.now.now
      c.args.self.now.lines.items,
  omega arith,
)

pub returns-in-Ok-Trailer-clause-steps : goal.returns-in-Ok-Trailer-clause-steps
returns-in-Ok-Trailer-clause-steps c =
    let columns = c.args.self.now.columns.now in
    let bytes = c.tuples.bytes.now in
    let lines = c.tuples.self.lines.items in
    let old = c.args.bytes.now.now in
    let before = c.args.self.now.lines.items in
    let first = c.args.self.now.row in
    let count = c.tuples.self.row in
    let rest = c.in-Ok-Trailer.rest.now in
    let stands = subst (StandsAt (length c.tuples.self.columns.now) bytes) c.in-Ok-Trailer.field-0-is
    c.in-Ok-Trailer.ensures.ok in
    subst (λ p. Advances columns p first old before End count rest lines) (sym c.in-Tuples.is)
    (advances_more columns Tuples Tuples End first count count old bytes rest before lines lines c.tuples.invariant.2
    (trailer_taken columns count count bytes rest lines stands))

pub tuples-preserved : goal.tuples-preserved
tuples-preserved c =
    let columns = c.args.self.now.columns.now in
    let same = c.tuples.self.columns.now in
    let bytes = c.tuples.bytes.now in
    let lines = c.tuples.self.lines.items in
    let old = c.args.bytes.now.now in
    let before = c.args.self.now.lines.items in
    let first = c.args.self.now.row in
    let count = c.tuples.self.row in
    let frames = c.in-Ok-Tuple.frames.now in
    let rest = c.in-Ok-Tuple.rest.now in
    let longer = c.push_row.new.self.lines.items in
    let next = c.saturating_add-row.result in
    let stands = subst (StandsAt (length same) bytes) c.in-Ok-Tuple.field-0-is c.in-Ok-Tuple.ensures.ok in
    let taken = row_taken same count next bytes frames rest lines longer stands.0 stands.1
    c.in_ok-push_row-in-Ok-Tuple.ensures.ok c.saturating_add-row.ensures in (
      c.push_row.ensures.columns ∙ c.tuples.invariant.0,
      c.push_row.ensures.place ∙ c.tuples.invariant.1,
      advances_more columns Tuples Tuples Tuples first count next old bytes rest before lines longer
          c.tuples.invariant.2
          (subst (λ x. Advances x Tuples count bytes lines Tuples next rest longer) c.tuples.invariant.0 taken),
      (let shorter = tuple_shorter (length same) bytes frames rest stands.1 in
          omega (arith, shorter, c.tuples.invariant.3)),
    )

pub returns-in-Ok-Part-clause-awaits : goal.returns-in-Ok-Part-clause-awaits
returns-in-Ok-Part-clause-awaits c =
    let same = c.tuples.self.columns.now in
    let bytes = c.tuples.bytes.now in
    let stands = subst (StandsAt (length same) bytes) c.in-Ok-Part.field-0-is c.in-Ok-Part.ensures.ok in
    λ more open_. subst (λ p. Awaits c.args.self.now.columns.now p bytes) (sym c.tuples.invariant.1)
    (subst (λ x. EndsInTuple (length x) bytes) c.tuples.invariant.0 stands)

pub returns-in_err-push_row-in-Ok-Tuple-clause-steps : goal.returns-in_err-push_row-in-Ok-Tuple-clause-steps
returns-in_err-push_row-in-Ok-Tuple-clause-steps c =
    let columns = c.args.self.now.columns.now in
    let first = c.args.self.now.row in
    let old = c.args.bytes.now.now in
    let before = c.args.self.now.lines.items in
    let bytes = c.tuples.bytes.now in
    let next = c.push_row.new.self in
    subst (λ p. Advances columns p first old before next.place next.row bytes next.lines.items) (sym c.in-Tuples.is)
    (subst (λ p. Advances columns Tuples first old before p next.row bytes next.lines.items)
    (sym (c.push_row.ensures.place ∙ c.tuples.invariant.1))
    (subst (λ k. Advances columns Tuples first old before Tuples k bytes next.lines.items) (sym c.push_row.ensures.row)
    (subst (λ l. Advances columns Tuples first old before Tuples c.tuples.self.row bytes l)
    (sym c.in_err-push_row-in-Ok-Tuple.ensures.err) c.tuples.invariant.2)))

pub returns-in_err-push_row-in-Ok-Tuple-clause-refused : goal.returns-in_err-push_row-in-Ok-Tuple-clause-refused
returns-in_err-push_row-in-Ok-Tuple-clause-refused c =
    let columns = c.args.self.now.columns.now in
    let same = c.tuples.self.columns.now in
    let bytes = c.tuples.bytes.now in
    let count = c.tuples.self.row in
    let next = c.push_row.new.self in
    let f = c.in_err-push_row-in-Ok-Tuple.field-0.0 in
    let stands = subst (StandsAt (length same) bytes) c.in-Ok-Tuple.field-0-is c.in-Ok-Tuple.ensures.ok in
    let refused = tuple_refused (next_row count) same bytes c.in-Ok-Tuple.frames.now c.in-Ok-Tuple.rest.now stands.0
    stands.1 f c.in_err-push_row-in-Ok-Tuple.ensures.refused in
    answered (UnlessMemory (StopsAt columns next.place next.row bytes)) c.from_residual.result f
    c.from_residual.ensures.1
    (subst (λ p. UnlessMemory (StopsAt columns p next.row bytes) f) (sym (c.push_row.ensures.place ∙
    c.tuples.invariant.1))
    (subst (λ k. UnlessMemory (StopsAt columns Tuples k bytes) f) (sym c.push_row.ensures.row)
    (subst (λ x. UnlessMemory (StopsAt x Tuples count bytes) f) c.tuples.invariant.0 refused)))

pub returns-in-Err-clause-refused : goal.returns-in-Err-clause-refused
returns-in-Err-clause-refused c =
    let columns = c.args.self.now.columns.now in
    let same = c.tuples.self.columns.now in
    let bytes = c.tuples.bytes.now in
    let count = c.tuples.self.row in
    let e = c.in-Err.fault in
    let f = c.refused_tuple.result in
    let named = subst (λ n. f ≡ tuple_fault (Tuple n) e) c.saturating_add-row.ensures c.refused_tuple.ensures in
    subst (λ p. UnlessMemory (StopsAt columns p count bytes) f) (sym c.tuples.invariant.1)
    (subst (λ x. UnlessMemory (StopsAt x Tuples count bytes) f) c.tuples.invariant.0
    (front_refused (next_row count) same bytes e c.in-Err.ensures.refused f named))
