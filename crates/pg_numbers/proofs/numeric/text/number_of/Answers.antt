-- What the proof of `number_of` answers by hand.
use Rattle.std.proofs.Common.{◌≤◌, ◌<◌, ◌+◌, ◌*◌, ◌∙◌, ap, arith, length}
use Rattle.std.proofs.lemmas.Grind.{div_ceil_times}
use Rattle.pg_numbers.specs.Numeric.{are_digits}
use Rattle.pg_numbers.proofs.ParsedNumbers.{parsed, weight_of}
use Rattle.pg_numbers.proofs.ReadTexts.{base_are_digits, base_length}
use Rattle.pg_numbers.proofs.numeric.text.number_of.Goals as goal

pub from_parts-number-requires-clause-digits : goal.from_parts-number-requires-clause-digits
from_parts-number-requires-clause-digits c =
    ap are_digits c.in_ok-digits.ensures.ok
    ∙ base_are_digits c.args.integer.now c.args.decimals.now c.requires.integer c.requires.decimals

pub from_parts-number-requires-clause-short : goal.from_parts-number-requires-clause-short
from_parts-number-requires-clause-short c =
    omega (
      arith,
      ap length c.in_ok-digits.ensures.ok,
      base_length c.args.integer.now c.args.decimals.now,
      c.requires.few,
      c.requires.short,
    )

pub returns-clause-ok : goal.returns-clause-ok
returns-clause-ok c =
    let integer = c.args.integer.now in
    let decimals = c.args.decimals.now in
    let count = c.div_ceil.result in
    let bounds = div_ceil_times (length integer) 4 (omega arith) in
    let low : length integer ≤ 4 * count = omega (arith, bounds.0, c.div_ceil.ensures) in
    let high : 4 * count < length integer + 4 = omega (arith, bounds.1, c.div_ceil.ensures) in
    parsed c.args.negative c.from_parts-number.result _ count integer decimals c.in_ok-digits.digits.items
    c.in_ok-digits.ensures.ok c.from_parts-number.ensures
    (weight_of count (omega (arith, high, c.requires.few))) low high c.digits.ensures.number
