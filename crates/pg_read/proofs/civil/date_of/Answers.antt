-- What the proof of `date_of` answers by hand.
use Rattle.std.proofs.Common.{arith, refl, ap}
use Rattle.jiff.proofs.SpanFacts.{signed_arith}
use Rattle.jiff.specs.Words.{epoch_day}
use Rattle.pg_read.proofs.civil.date_of.Goals as goal

pub returns-in-Ok-clause-gives : goal.returns-in-Ok-clause-gives
returns-in-Ok-clause-gives c =
    let base = ap epoch_day c.to_plain.ensures in
    let can = c.in-Ok.ensures.succeeds.0 refl in
    let v = c.in-Ok.ensures.value in
    omega (arith, signed_arith)

pub returns-in-Err-clause-gives : goal.returns-in-Err-clause-gives
returns-in-Err-clause-gives c =
    let base = ap epoch_day c.to_plain.ensures in
    let s = c.in-Err.ensures.succeeds.1 in
    (λ h. let no = s (omega (arith, signed_arith)) in cc, refl)
