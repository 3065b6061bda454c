-- What the proof of `write_integer` answers by hand.
use Rattle.std.proofs.Common.{◌≡◌, ◌++◌, ◌-ℤ◌, ◌<◌, ◌^◌, ◌∙◌, ap, arith, pos, refl}
use Rattle.std.proofs.Output.{has_written_append, has_written_of_eq}
use Rattle.std.specs.Fmt.{decimal}
use Rattle.pg_numbers.specs.NumericTexts.{digit_of, digits_text, first_weight, integer_text}
use Rattle.pg_numbers.proofs.WrittenDigits.{one_below, same_weight}
use Rattle.pg_numbers.proofs.numeric.text.write_integer.Goals as goal

pub returns : goal.returns
returns g c = λ plain ok.
    let p = c.args.v.now in
    let front = c.in_ok-write.ensures.writes plain refl in
    let last = c.write_digits.ensures front.plain ok in
    let first = c.first_weight-first.result in
    let small : first < 2 ^ 15 = c.first_weight-first.ensures.small in
    let digit : c.digit_of.result ≡ digit_of p (pos first) =
    c.digit_of.ensures ∙ ap (digit_of p) (same_weight c.into.result first c.into.ensures (omega (arith, small))) in
    let weight = one_below c.from.result first c.from.ensures small in
    let is : first ≡ first_weight p.weight = c.first_weight-first.ensures.first in
    let text : decimal c.digit_of.result ++ digits_text p (pos first -ℤ pos 1) first ≡ integer_text p =
    ap (λ d. decimal d ++ digits_text p (pos first -ℤ pos 1) first) digit
    ∙ ap (λ n. decimal (digit_of p (pos n)) ++ digits_text p (pos n -ℤ pos 1) n) is in
    has_written_of_eq _ _ _ _ _ text (has_written_append _ _ _ _ _ _ front (rw weight at last))
