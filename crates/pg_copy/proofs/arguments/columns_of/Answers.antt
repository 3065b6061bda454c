-- What the proof of `columns_of` answers by hand.
use Rattle.std.proofs.Common.{◌≡◌, ◌≤◌, ◌<◌, arith, length, refl, sym}
use Rattle.std.proofs.lemmas.Grind.{common_steps}
use Rattle.std.proofs.lemmas.List.{get_or-map, length-map, nil_from_length}
use Rattle.pg_copy.proofs.ArgumentLaws.{all_taken, no_more, one_more}
use Rattle.pg_copy.specs.Arguments.{texts_of}
use Rattle.pg_copy.proofs.arguments.columns_of.Goals as goal

pub loop-place-preserved : goal.loop-place-preserved
loop-place-preserved c =
    let l = c.loop-place in
    let texts = texts_of c.args.types.now in
    let some : l.place < length texts = rw (length-map c.args.types.now) c.loop-place-test.true in
    let first = sym (get_or-map (λ t. t.now) c.args.types.now l.place _ _ c.loop-place-test.true) in
    one_more texts l.place _ l.columns.items l.refused.items c.push_type.new.columns.items
    c.push_type.new.refused.items some first c.in_ok-push_type.ensures l.invariant

pub returns-then-is_empty-clause-ok : goal.returns-then-is_empty-clause-ok
returns-then-is_empty-clause-ok c =
    let l = c.loop-place in
    let texts = texts_of c.args.types.now in
    let past : length texts ≤ l.place = rw (length-map c.args.types.now) c.loop-place-test.false in
    let all = no_more texts l.place l.columns.items l.refused.items past l.invariant in
    let none : length l.refused.items ≡ 0 = grind arith in
    all_taken 1 texts l.columns.items l.refused.items (nil_from_length l.refused.items none) all

pub returns-else-is_empty-clause-err : goal.returns-else-is_empty-clause-err
returns-else-is_empty-clause-err c =
    let l = c.loop-place in
    let texts = texts_of c.args.types.now in
    let past : length texts ≤ l.place = rw (length-map c.args.types.now) c.loop-place-test.false in
    let all = no_more texts l.place l.columns.items l.refused.items past l.invariant in (
      (l.columns.items, all),
      λ none. (let size : length l.refused.items ≡ 0 = rw none refl in grind (arith, common_steps, size)),
    )
