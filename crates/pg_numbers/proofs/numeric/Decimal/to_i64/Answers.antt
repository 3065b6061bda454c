-- What the proof of `Decimal::to_i64` answers by hand.
use Rattle.std.specs.Prelude.{FitsSigned, MatchOption}
use Rattle.std.specs.Int.{w64, w128}
use Rattle.std.specs.Result.{OkIff}
use Rattle.std.proofs.Common.{subst, sym, rules}
use Rattle.std.proofs.lemmas.Int.{to_z-of_z}
use Rattle.pg_numbers.specs.Numeric.{HasNoInteger, IsInteger}
use Rattle.pg_numbers.proofs.NoIntegers.{narrower_answer}
use Rattle.pg_numbers.proofs.numeric.Decimal.to_i64.Goals as goal

pub returns : goal.returns
returns c =
    let p = c.args.self.now in
    let n = c.in_ok-integer.integer in
    let fits : FitsSigned w128 n = search rules in
    subst (λ o. MatchOption o (HasNoInteger w64 p) (IsInteger p)) (sym c.ok.ensures.value)
    (narrower_answer w64 p n c.try_from.result c.in_ok-integer.ensures
    (subst (λ x. OkIff c.try_from.result (FitsSigned w64 x) x) (to_z-of_z w128 n fits) c.try_from.ensures))
