-- What the proof of `Parts::take_part` answers by hand.
use Rattle.std.proofs.Common.{rules, ◌≡◌, inl, inr, refl, subst, sym, ◌∙◌, w32, w64, to_z, of_z}
use Rattle.pg_text.specs.Scans.{TakesNumber}
use Rattle.std.proofs.lemmas.Option.{IfSome_then}
use Rattle.pg_text.proofs.Refusals.{then_set}
use Rattle.pg_text.proofs.intervals.Parts.take_part.Goals as goal

pub returns-then-take : goal.returns-then-take
returns-then-take c =
    let a = c.take_sign-is_negative.new.scanner.rest.now in
    let b = c.take.new.self.rest.now in
    let n = c.in_ok-number.number in
    let number = subst (TakesNumber a n) c.if-take.ensures c.in_ok-number.ensures.0 in
    let micros : to_z w64 (of_z w64 c.in_ok-signed.field-0) ≡ c.in_ok-signed.field-0 = search rules in
    then_set _ _ _ c.set.result c.set.ensures (λ e _. inr (
      to_z w64 (of_z w64 c.in_ok-signed.field-0),
      (
        c.take_sign-is_negative.result,
        n,
        c.in_ok-time.time,
        a,
        b,
        c.take_sign-is_negative.ensures,
        number,
        c.in_ok-time.ensures,
        micros ∙ c.in_ok-signed.ensures,
      ),
      (e, refl, refl, refl),
    ))

pub returns : goal.returns
returns c =
    let a = c.take_sign-is_negative.new.scanner.rest.now in
    let b = c.take.new.self.rest.now in
    let n = c.in_ok-number.number in
    let number = subst (TakesNumber a n) (sym c.if-take.ensures.0) c.in_ok-number.ensures.0 in
    let count : to_z w32 (of_z w32 c.in_ok-count.count) ≡ c.in_ok-signed-2.field-0 = search rules in
    IfSome_then c.set_field.result c.set_field.ensures (λ _ set. inl (
      to_z w32 (of_z w32 c.in_ok-count.count),
      c.in_ok-field.field,
      (
        c.take_sign-is_negative.result,
        n,
        a,
        b,
        c.take_sign-is_negative.ensures,
        number,
        c.in_ok-field.ensures,
        count ∙ c.in_ok-signed-2.ensures,
      ),
      set,
    ))
