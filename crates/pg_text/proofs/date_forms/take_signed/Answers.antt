-- What the proof of `take_signed` answers by hand.
use Rattle.std.proofs.Common.{rules, arith, ◌≡◌, ◌+◌, ◌*◌, ◌-ℤ◌, ◌∷◌, FitsSigned, inl, inr, pos, refl, to_z, w32}
use Rattle.std.proofs.lemmas.Int.{ints}
use Rattle.std.proofs.Math.Facts.{to_z-of_z}
use Rattle.pg_text.proofs.date_forms.take_signed.Goals as goal

pub returns-then-is_minus : goal.returns-then-is_minus
returns-then-is_minus c =
    let sign : c.args.scanner.now.rest.now ≡ 45 ∷ c.take_sign.new.scanner.rest.now =
    rw c.if-is_minus.true at c.in_ok-is_minus.ensures in
    let n = c.in_ok-hours.hours * 3600 + c.in_ok-minutes.minutes * 60 + c.in_ok-minutes.seconds in
    let offset : to_z w32 n ≡ pos n = search rules in
    let fits : FitsSigned w32 (pos 0 -ℤ pos n) = omega (arith, ints) in (
      45,
      c.in_ok-hours.hours,
      c.in_ok-minutes.minutes,
      c.in_ok-minutes.seconds,
      c.take_sign.new.scanner.rest.now,
      c.pair.new.self.rest.now,
      sign,
      c.in_ok-hours.ensures.digits,
      omega arith,
      c.in_ok-minutes.ensures.taken,
      inr (refl, rw offset (to_z-of_z fits)),
    )

pub returns-else-is_minus : goal.returns-else-is_minus
returns-else-is_minus c =
    let sign : c.args.scanner.now.rest.now ≡ 43 ∷ c.take_sign.new.scanner.rest.now =
    rw c.if-is_minus.false at c.in_ok-is_minus.ensures in (
      43,
      c.in_ok-hours.hours,
      c.in_ok-minutes.minutes,
      c.in_ok-minutes.seconds,
      c.take_sign.new.scanner.rest.now,
      c.pair.new.self.rest.now,
      sign,
      c.in_ok-hours.ensures.digits,
      omega arith,
      c.in_ok-minutes.ensures.taken,
      inl (refl, search rules),
    )
