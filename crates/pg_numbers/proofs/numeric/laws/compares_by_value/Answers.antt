-- What the proof of `compares_by_value` answers by hand.
use Rattle.std.proofs.Common.{◌∙◌}
use Rattle.pg_numbers.specs.Laws.Numeric.{number_facts}
use Rattle.pg_numbers.proofs.OrderedValues.{ordered}
use Rattle.pg_numbers.proofs.numeric.laws.compares_by_value.Goals as goal

pub returns : goal.returns
returns c =
    let a = number_facts c.args.a.now c.digits.ensures.number in
    let b = number_facts c.args.b.now c.digits-2.ensures.number in
    c.cmp.ensures ∙ ordered c.args.a.now c.args.b.now a.itself b.itself a.digits b.digits
