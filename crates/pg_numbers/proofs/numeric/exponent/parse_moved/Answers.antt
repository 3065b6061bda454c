-- What the proof of `parse_moved` answers by hand.
use Rattle.std.proofs.Common.{◌≡◌, ◌++◌, ◌+◌, ◌-◌, ◌∙◌, ap, arith, length, length-append, sym, true}
use Rattle.std.specs.Char.{is_ascii_digit}
use Rattle.std.specs.List.{list_all}
use Rattle.pg_numbers.specs.NumericExponents.{moved_digits, moved_scale, moved_zeros, zeros_after}
use Rattle.pg_numbers.specs.NumericTexts.{fits_moved, fits_places, without_leading_zeros}
use Rattle.pg_numbers.proofs.Exponents.{cut, moved_answers, moved_decimal}
use Rattle.pg_numbers.proofs.ReadTexts.{decimal_drop, decimal_take}
use Rattle.pg_numbers.proofs.numeric.exponent.parse_moved.Goals as goal

pub number_of-requires-clause-integer : goal.number_of-requires-clause-integer
number_of-requires-clause-integer c =
    let place = c.len.result - c.moved_scale-scale.result in
    let all : list_all is_ascii_digit c.deref.result.now ≡ true =
    moved_decimal c.args.integer.now c.args.decimals.now (c.significant.result.0.now ++ c.significant.result.1.now)
    c.deref.result.now c.zeros_after-zeros.result c.moved_scale-scale.result c.requires.integer c.requires.decimals
    c.significant.ensures (c.deref.ensures.value ∙ c.in_ok-digits.ensures.ok) in
    ap (list_all is_ascii_digit) c.split_at.ensures.front ∙ decimal_take place c.deref.result.now all

pub number_of-requires-clause-decimals : goal.number_of-requires-clause-decimals
number_of-requires-clause-decimals c =
    let place = c.len.result - c.moved_scale-scale.result in
    let all : list_all is_ascii_digit c.deref.result.now ≡ true =
    moved_decimal c.args.integer.now c.args.decimals.now (c.significant.result.0.now ++ c.significant.result.1.now)
    c.deref.result.now c.zeros_after-zeros.result c.moved_scale-scale.result c.requires.integer c.requires.decimals
    c.significant.ensures (c.deref.ensures.value ∙ c.in_ok-digits.ensures.ok) in
    ap (list_all is_ascii_digit) c.split_at.ensures.back ∙ decimal_drop place c.deref.result.now all

pub returns : goal.returns
returns c =
    let below = c.args.below in
    let power = c.args.power in
    let decimals = c.args.decimals.now in
    let ds = c.args.integer.now ++ decimals in
    let front = without_leading_zeros ds in
    let more = moved_zeros below power (length decimals) in
    let last = moved_scale below power (length decimals) in
    let zeros = c.zeros_after-zeros.result in
    let scale = c.moved_scale-scale.result in
    let left = c.significant.result.0.now in
    let right = c.significant.result.1.now in
    let count : length left + length right ≡ length front =
    sym (length-append left right) ∙ ap length c.significant.ensures in
    let zeros_are : zeros ≡ zeros_after (length front) more =
    c.zeros_after-zeros.ensures ∙ ap (λ n. zeros_after n c.moved_zeros-zeros.result) count
    ∙ ap (zeros_after (length front)) c.moved_zeros-zeros.ensures in
    let digits : c.deref.result.now ≡ moved_digits front (zeros_after (length front) more) last =
    c.deref.ensures.value ∙ c.in_ok-digits.ensures.ok ∙ ap (λ xs. moved_digits xs zeros scale) c.significant.ensures
    ∙ ap (λ n. moved_digits front n scale) zeros_are
    ∙ ap (moved_digits front (zeros_after (length front) more)) c.moved_scale-scale.ensures in
    let fits : fits_moved ds below power (length decimals) ≡ true =
    sym (c.fits_places.ensures ∙ ap (λ n. fits_places n zeros scale) count
    ∙ ap (λ n. fits_places (length front) n scale) zeros_are
    ∙ ap (fits_places (length front) (zeros_after (length front) more)) c.moved_scale-scale.ensures)
    ∙ c.if-not-fits_places.false in
    let place : c.len.result - scale ≡ length c.deref.result.now - last =
    omega (arith, c.len.ensures, c.deref.ensures.len, c.moved_scale-scale.ensures) in
    let parts = cut ds more last c.deref.result.now c.split_at.result.0.now c.split_at.result.1.now
    (c.len.result - scale) digits place c.split_at.ensures.front c.split_at.ensures.back in
    moved_answers c.args.negative ds below power (length decimals) c.split_at.result.0.now c.split_at.result.1.now
    c.number_of.result fits parts c.number_of.ensures.ok c.number_of.ensures.refused
