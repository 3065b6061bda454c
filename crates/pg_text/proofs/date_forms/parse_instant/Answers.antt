-- What the proof of `parse_instant` answers by hand.
use Rattle.std.proofs.Common.{rules, arith, ◌≡◌, ◌∙◌, ◌+ℤ◌, ◌-ℤ◌, ◌*ℤ◌, FitsSigned, ap, pos, subst, w32, w64, to_z, of_z}
use Rattle.std.proofs.Math.Facts.{to_z-of_z}
use Rattle.std.proofs.lemmas.Int.{ints}
use Rattle.pg_calendar.specs.Calendar.{IsTimestamp}
use Rattle.pg_text.specs.Scans.{SaysUtcMicros, TakesDateTime, TakesInstant}
use Rattle.pg_text.proofs.Scans.{some_value}
use Rattle.pg_text.proofs.date_forms.parse_instant.Goals as goal

pub returns : goal.returns
returns c =
    let text = c.args.text.now in
    let date = c.in_ok-datetime.datetime.date in
    let clock = c.in_ok-datetime.datetime.clock in
    let rest = c.take_datetime.new.scanner.rest.now in
    let inside : to_z w64 (of_z w64 date.year) ≡ date.year = search rules in
    let instant : TakesInstant text c.in_ok-year.year date.month date.day clock.hour clock.minute clock.second
    clock.micros c.in_ok-offset.offset = (
      date.year,
      rest,
      c.take_offset.new.scanner.rest.now,
      subst (λ text. TakesDateTime text date.year date.month date.day clock.hour clock.minute clock.second clock.micros
          rest) c.new-scanner.ensures c.in_ok-datetime.ensures,
      c.in_ok-offset.ensures,
      rw inside at c.in_ok-year.ensures,
    ) in
    let micros : to_z w64 (of_z w64 c.in_ok-micros.micros) ≡ c.in_ok-micros.micros = search rules in
    let year : to_z w64 (of_z w64 c.in_ok-year.year) ≡ c.in_ok-year.year = search rules in
    let zero : c.in_ok-micros.micros +ℤ pos 0 *ℤ pos 86_400_000_000 ≡ c.in_ok-micros.micros = omega (arith, ints) in
    let at : IsTimestamp c.in_ok-year.year date.month date.day clock.hour clock.minute clock.second clock.micros
    c.in_ok-micros.micros =
    subst (IsTimestamp c.in_ok-year.year date.month date.day clock.hour clock.minute clock.second clock.micros) zero
    (rw year at c.in_ok-micros.ensures) in
    let offset : c.from.result ≡ c.in_ok-offset.offset = c.from.ensures ∙ search rules in
    let again : to_z w64 (of_z w64 c.from.result) ≡ c.from.result = search rules in
    let fits : FitsSigned w64 (c.in_ok-offset.offset *ℤ pos 1_000_000) =
    let small : FitsSigned w32 c.in_ok-offset.offset = search rules in
    omega (arith, ints, small) in
    let product = ap (λ z. to_z w64 (of_z w64 (z *ℤ pos 1_000_000))) (again ∙ offset) ∙ to_z-of_z fits in
    some_value c.checked_sub.result _ _ (SaysUtcMicros text) c.checked_sub.ensures (
      c.in_ok-year.year,
      c.in_ok-micros.micros,
      c.in_ok-offset.offset,
      date.month,
      date.day,
      clock.hour,
      clock.minute,
      clock.second,
      clock.micros,
      instant,
      at,
      λ i. micros i -ℤ product i,
    )
