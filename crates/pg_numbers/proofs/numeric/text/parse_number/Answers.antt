-- What the proof of `parse_number` answers by hand.
use Rattle.std.proofs.Common.{◌≡◌, ◌∙◌, ap, arith, inl, inr, length, sym, true}
use Rattle.std.specs.Char.{is_ascii_digit}
use Rattle.std.specs.List.{list_all}
use Rattle.pg_numbers.specs.NumericTexts.{decimal_zeros, decimals_of, integer_of, is_numeral}
use Rattle.pg_numbers.specs.NumericTexts.{without_leading_zeros}
use Rattle.pg_numbers.proofs.Exponents.{plain_answers, plain_too_long}
use Rattle.pg_numbers.proofs.ParsedNumbers.{numeral_integer}
use Rattle.pg_numbers.proofs.ReadTexts.{decimal_drop}
use Rattle.pg_numbers.proofs.numeric.text.parse_number.Goals as goal
use Rattle.pg_numbers.proofs.numeric.text.parse_number.Goals.{then-integer-gt-MAX_INTEGER-via-then-integer-gt-MAX_INTEGER, then-integer-gt-MAX_INTEGER-via-else-integer-gt-MAX_INTEGER+then-decimals-from}

pub returns-then-integer-gt-MAX_INTEGER : goal.returns-then-integer-gt-MAX_INTEGER
returns-then-integer-gt-MAX_INTEGER c =
    let text = c.args.text.now in
    let numeral : is_numeral (integer_of text) (decimals_of text) ≡ true =
    ap (λ xs. is_numeral xs (decimals_of text)) (sym c.split_point.ensures.integer)
    ∙ ap (is_numeral c.split_point.result.0.now) (sym c.split_point.ensures.decimals)
    ∙ sym c.is_numeral.ensures ∙ c.if-not-is_numeral.false in
    let front = ap length (c.without_zeros-integer.ensures ∙ ap without_leading_zeros c.split_point.ensures.integer) in
    let last = ap length c.split_point.ensures.decimals in
    rw c.too_long.ensures (plain_too_long text numeral (elim c.then-integer-gt-MAX_INTEGER.branch [
      | then-integer-gt-MAX_INTEGER-via-then-integer-gt-MAX_INTEGER w ↦
          inl (omega (arith, w.if-integer-gt-MAX_INTEGER.true, front))
      | then-integer-gt-MAX_INTEGER-via-else-integer-gt-MAX_INTEGER+then-decimals-from w ↦
          inr (omega (arith, w.from.ensures, w.if-decimals-from.true, last))
    ]))

pub number_of-requires-clause-integer : goal.number_of-requires-clause-integer
number_of-requires-clause-integer c =
    let integer = c.split_point.result.0.now in
    ap (list_all is_ascii_digit) c.without_zeros-integer.ensures
    ∙ decimal_drop (decimal_zeros integer) integer (numeral_integer integer c.split_point.result.1.now
    (sym c.is_numeral.ensures ∙ c.if-not-is_numeral.false))

pub returns : goal.returns
returns c =
    let text = c.args.text.now in
    let numeral : is_numeral (integer_of text) (decimals_of text) ≡ true =
    ap (λ xs. is_numeral xs (decimals_of text)) (sym c.split_point.ensures.integer)
    ∙ ap (is_numeral c.split_point.result.0.now) (sym c.split_point.ensures.decimals)
    ∙ sym c.is_numeral.ensures ∙ c.if-not-is_numeral.false in
    let front = c.without_zeros-integer.ensures ∙ ap without_leading_zeros c.split_point.ensures.integer in
    let last = c.split_point.ensures.decimals in
    plain_answers c.args.negative text c.number_of.result front last numeral c.if-integer-gt-MAX_INTEGER.false
    (omega (arith, c.from.ensures, c.if-decimals-from.false)) c.number_of.ensures.ok c.number_of.ensures.refused
