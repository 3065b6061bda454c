-- What the proof of `write_decimals` answers by hand.
use Rattle.std.proofs.Common.{◌≡◌, ◌++◌, ◌/◌, ◌%◌, ◌<◌, ◌^◌, ◌∙◌, ap, arith, negsuc, refl}
use Rattle.std.proofs.Output.{has_written_append, has_written_of_eq}
use Rattle.pg_numbers.specs.NumericTexts.{decimals_text, digit_of, digits_text, first_decimals}
use Rattle.pg_numbers.proofs.WrittenDigits.{after_point}
use Rattle.pg_numbers.proofs.numeric.text.write_decimals.Goals as goal

pub returns : goal.returns
returns g c = λ plain ok.
    let p = c.args.v.now in
    let front = c.in_ok-write_digits.ensures plain refl in
    let last = c.write_first.ensures front.plain ok in
    let full = c.scale-full.result in
    let small : full / 4 < 2 ^ 16 = omega arith in
    let digit : c.digit_of.result ≡ digit_of p (negsuc (p.scale / 4)) =
    c.digit_of.ensures ∙ ap (digit_of p) (after_point c.from.result (full / 4) c.from.ensures small)
    ∙ ap (λ n. digit_of p (negsuc (n / 4))) c.scale-full.ensures in
    let text : digits_text p (negsuc 0) (full / 4) ++ first_decimals (c.scale.result % 4) c.digit_of.result
    ≡ decimals_text p =
    ap (λ n. digits_text p (negsuc 0) (n / 4) ++ first_decimals (c.scale.result % 4) c.digit_of.result)
    c.scale-full.ensures
    ∙ ap (λ n. digits_text p (negsuc 0) (p.scale / 4) ++ first_decimals (n % 4) c.digit_of.result) c.scale.ensures
    ∙ ap (λ d. digits_text p (negsuc 0) (p.scale / 4) ++ first_decimals (p.scale % 4) d) digit in
    has_written_of_eq _ _ _ _ _ text (has_written_append _ _ _ _ _ _ front last)
