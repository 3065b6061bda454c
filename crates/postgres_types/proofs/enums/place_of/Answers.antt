-- What the proof of `place_of` answers by hand.
use Rattle.std.proofs.Common.{◌≡◌, ◌==◌, true, false, refl, sym, ◌∙◌, subst}
use Rattle.std.specs.Cmp.Lexicographic.{pointwise}
use Rattle.postgres_types.proofs.EnumLabels.{found_at, none_left, other_label}
use Rattle.postgres_types.proofs.enums.place_of.Goals as goal

pub returns-then-eq-clause-found : goal.returns-then-eq-clause-found
returns-then-eq-clause-found c = (
  c.loop-place-test.true,
  found_at c.args.labels.now c.args.bytes.now c.loop-place.place _ c.loop-place-test.true
      (subst (λ s. pointwise ◌==◌ s c.args.bytes.now ≡ true) c.as_bytes.ensures.value (sym c.eq.ensures ∙ c.if-eq.true)),
)

pub loop-place-init : goal.loop-place-init
loop-place-init c = refl

pub loop-place-preserved : goal.loop-place-preserved
loop-place-preserved c =
    c.loop-place.invariant
    ∙ other_label c.args.labels.now c.args.bytes.now c.loop-place.place _ c.loop-place-test.true
    (subst (λ s. pointwise ◌==◌ s c.args.bytes.now ≡ false) c.as_bytes.ensures.value (sym c.eq.ensures ∙ c.if-eq.false))

pub returns-clause-none : goal.returns-clause-none
returns-clause-none c =
    c.loop-place.invariant ∙ none_left c.args.labels.now c.args.bytes.now c.loop-place.place c.loop-place-test.false
