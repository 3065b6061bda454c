-- What the proof of `find_cells` answers by hand.
use Rattle.std.proofs.Common.{◌≡◌, ◌+◌, ◌++◌, ◌∷◌, [], ◌∙◌, ap, arith, inl, length, length-append, subst, sym}
use Rattle.pg_base.specs.Cells.{cell_of}
use Rattle.pg_client.proofs.RowIndexLaws.{offset_after, one_more_offset}
use Rattle.pg_client.proofs.RowLaws.{one_more}
use Rattle.pg_client.specs.Places.{column_place}
use Rattle.pg_client.specs.RowOffsets.{HasOffsets}
use Rattle.pg_types.specs.Faults.{refusal_of}
use Rattle.pg_client.proofs.row_index.find_cells.Goals as goal

pub returns-in-Err : goal.returns-in-Err
returns-in-Err c =
    let known = c.loop-place.invariant in
    let refused = c.in-Err.ensures in
    let new = c.new.ensures in
    let place : c.loop-place.place ≡ 0 + length known.0 = omega (arith, known.1) in
    let at = ap (λ f. f.place) new ∙ c.place_of.ensures ∙ ap (column_place c.args.columns.now) place in
    inl (
      known.0,
      c.loop-place.rest.now,
      known.2,
      inl (
        omega (arith, known.1, c.loop-place-test.true),
        refused.0,
        (at, ap (λ f. refusal_of f.fault) new ∙ refused.1),
      ),
    )

pub loop-place-preserved : goal.loop-place-preserved
loop-place-preserved c =
    let l = c.loop-place in
    let frames = c.args.frames.now in
    let known = l.invariant in
    let cell = c.in-Ok.ensures in
    let offset = offset_after frames l.rest.now known.0 l.place known.1 known.2 in
    let offsets = c.in_ok-push_offset-in-Ok.ensures.ok ∙ ap (λ o. l.offsets.items ++ o ∷ []) c.saturating_sub-offset.ensures in (
      known.0 ++ cell_of c.in-Ok.field-0 ∷ [],
      omega (arith, known.1, length-append known.0 (cell_of c.in-Ok.field-0 ∷ [])),
      one_more _ _ _ _ known.0 _ known.2 cell.1 cell.2,
      subst (HasOffsets (l.place + 1) frames) (sym offsets)
          (one_more_offset l.place frames l.offsets.items _ known.3 offset),
    )
