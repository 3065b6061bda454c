-- What the proof of `is_number` answers by hand.
use Rattle.std.proofs.Common.{arith, rules, sym, ◌∙◌}
use Rattle.std.proofs.lemmas.Bool.{eqb-false}
use Rattle.pg_base.proofs.NetworkParses.{number_told}
use Rattle.pg_base.proofs.network.text.is_number.Goals as goal

pub returns-then-not-is_empty : goal.returns-then-not-is_empty
returns-then-not-is_empty c =
    let some = eqb-false _ 0 (sym c.is_empty.ensures ∙ c.if-not-is_empty.true) in
    number_told c.args.text.now c.without_plus-digits.result.now (search rules) (omega (arith, some))
    c.are_digits.result c.are_digits.ensures
