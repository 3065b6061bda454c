-- What the proof of `push_array` answers by hand.
use Rattle.std.proofs.Common.{[], ◌∷◌, ◌++◌, sym, ◌∙◌, take, arith}
use Rattle.std.proofs.lemmas.List.{length-take-le}
use Rattle.pg_text.specs.Lists.{ShowsElement}
use Rattle.pg_base.proofs.Lists.{zip_length}
use Rattle.pg_text.proofs.Joins.{texts_step, zip_more}
use Rattle.pg_text.proofs.arrays.push_array.Goals as goal

pub loop-place-preserved : goal.loop-place-preserved
loop-place-preserved g c =
    let shown = ShowsElement g.T.ToText.shows in
    let elements = c.args.elements.now in
    let i = c.loop-place.place in
    let before = c.loop-place.invariant in
    let item = c.in_ok-push_item.ensures in
    let count = sym (zip_length shown (take i elements) before.0 before.1)
    ∙ length-take-le i elements (omega (arith, c.loop-place-test.true)) in (
      before.0 ++ item.0 ∷ [],
      zip_more shown elements before.0 i c.index-elements-place.result item.0 c.loop-place-test.true
          c.index-elements-place.is before.1 item.1,
      texts_step 44 before.0 i item.0 (c.args.out.now.items ++ 123 ∷ []) c.loop-place.out.items
          c.push_separator.new.out.items c.push_item.new.out.items count before.2 c.in_ok-push_separator.ensures
          item.2,
    )
