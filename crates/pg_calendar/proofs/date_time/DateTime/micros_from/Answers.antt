-- What the proof of `micros_from` answers by hand.
use Rattle.std.proofs.Common.{rules, arith, subst, w64, ◌≡◌, to_z, of_z, FitsSigned}
use Rattle.jiff_core.proofs.SignedLemmas.{signed_arith}
use Rattle.pg_calendar.proofs.Outcomes.{MatchOption_then}
use Rattle.pg_calendar.proofs.date_time.DateTime.micros_from.Goals as goal

pub returns : goal.returns
returns c =
    let day : to_z w64 (of_z w64 c.in_ok-to_day.field-0) ≡ c.in_ok-to_day.field-0 = search rules in
    let micros : to_z w64 (of_z w64 c.in_ok-to_micros.field-0) ≡ c.in_ok-to_micros.field-0 = search rules in
    let start : to_z w64 (of_z w64 c.args.day) ≡ c.args.day = search rules in
    let d = c.in_ok-to_day.ensures in
    let k = c.in_ok-to_micros.ensures in
    MatchOption_then c.micros_since.result c.micros_since.ensures
    (λ none n fits _ is. none (subst (λ z. FitsSigned w64 z) (omega (arith, signed_arith, is.2)) fits))
    (λ n e. (d.0, k.0, omega (arith, signed_arith)))
