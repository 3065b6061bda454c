-- What the proof of `not_blank` answers by hand.
use Rattle.std.proofs.Common.{◌≡◌, length, sym, ◌∙◌}
use Rattle.pg_copy.proofs.ArgumentLaws.{blank_types, is_zero}
use Rattle.pg_copy.proofs.arguments.not_blank.Goals as goal

pub returns-then-is_empty : goal.returns-then-is_empty
returns-then-is_empty c =
    let none : length c.trim.result.now ≡ 0 =
    is_zero (length c.trim.result.now) (sym c.is_empty.ensures ∙ c.if-is_empty.true) in
    blank_types c.args.text.now c.trim.result.now c.trim.ensures.value c.trim.ensures.trim none
