-- What the proof of `parse_timestamp` answers by hand.
use Rattle.std.proofs.Common.{rules, arith, ◌≡◌, w64, to_z, of_z}
use Rattle.jiff_core.proofs.SignedLemmas.{signed_arith}
use Rattle.pg_calendar.proofs.Outcomes.{IfSome_of_ok}
use Rattle.pg_text.proofs.dates.parse_timestamp.Goals as goal

pub returns : goal.returns
returns c =
    let micros : to_z w64 (of_z w64 c.in_ok-micros.micros) ≡ c.in_ok-micros.micros = search rules in
    rw c.ok.ensures.value (IfSome_of_ok c.from_microsecond.result (rw micros at c.from_microsecond.ensures.value)
    (λ t e. (
      c.in_ok-micros.micros,
      c.in_ok-micros.ensures,
      (omega (arith, signed_arith), omega (arith, signed_arith)),
      omega (arith, signed_arith),
    )))
