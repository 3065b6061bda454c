-- What the proof of `hide` answers by hand.
use Rattle.std.proofs.Common.{◌≡◌, ◌≢◌, ◌<◌, ◌∙◌, ap, arith, length, get_or, set, pos, ◌-ℤ◌, to_z, of_z, w32}
use Rattle.std.proofs.Common.{below_more}
use Rattle.std.proofs.Common.{get_or-set_other, get_or-set_same}
use Rattle.std.proofs.lemmas.Int.{ints}
use Rattle.std.proofs.lemmas.Grind.{common_steps}
use Rattle.pg_numbers.specs.Numeric.{hidden, without_decimals}
use Rattle.pg_numbers.proofs.Digits.{shown_by_index}
use Rattle.pg_numbers.proofs.numeric.hide.Goals as goal

pub loop-at-preserved : goal.loop-at-preserved
loop-at-preserved c =
    let at = c.loop-at.at in
    let scale = c.args.scale in
    let old = c.args.digits.now in
    let now = c.loop-at.digits in
    let result = c.without_decimals.result in
    let weight : to_z w32 (of_z w32 c.args.weight) ≡ c.args.weight = omega (arith, ints) in
    let hid : c.hidden.result ≡ hidden (to_z w32 (of_z w32 c.args.weight) -ℤ pos at) scale =
    c.hidden.ensures ∙ ap (λ z. hidden z scale) (omega (arith, ints)) in
    let same : get_or now at 0 ≡ get_or old at 0 = c.loop-at.invariant.1 at (omega arith) in
    let lt : at < length now = omega arith in
    let first : get_or (set now at result) at 0
    ≡ without_decimals (hidden (to_z w32 (of_z w32 c.args.weight) -ℤ pos at) scale) (get_or old at 0) =
    get_or-set_same now at result 0 lt ∙ grind (arith, common_steps, hid, same, c.without_decimals.ensures) in (
      below_more _ _ (λ k h. let ne : k ≢ at = omega arith in rw get_or-set_other (c.loop-at.invariant.0 k h)) first,
      λ k h. let ne : k ≢ at = omega (arith, h) in rw get_or-set_other (c.loop-at.invariant.1 k (omega (arith, h))),
    )

pub returns : goal.returns
returns c =
    let weight : to_z w32 (of_z w32 c.args.weight) ≡ c.args.weight = omega (arith, ints) in
    shown_by_index c.args.weight c.args.scale c.args.digits.now c.loop-at.digits (omega arith)
    (λ i h. rw weight at (c.loop-at.invariant.0 i (omega arith)))
