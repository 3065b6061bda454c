-- What the proof of `all_places` answers by hand.
use Rattle.std.proofs.Common.{arith, ap, sym, ◌≡◌, ◌∙◌, ◌++◌, ◌∷◌, []}
use Rattle.std.specs.List.{range_with_len}
use Rattle.pg_client.proofs.RefusedRows.{range_more}
use Rattle.pg_client.proofs.catalog.left.all_places.Goals as goal

pub loop-place-preserved : goal.loop-place-preserved
loop-place-preserved c =
    let place = c.loop-place.place in
    c.in_ok-push.ensures.items ∙ ap (λ places. places ++ place ∷ []) c.loop-place.invariant ∙ sym (range_more place)

pub returns : goal.returns
returns c =
    let all : c.loop-place.place ≡ c.args.rows = omega arith in
    c.loop-place.invariant ∙ ap (λ n. range_with_len 0 n) all
