-- What the proof of `Decimal::from_parts` answers by hand.
use Rattle.std.proofs.Common.{◌≡◌, ◌≤◌, ◌∙◌, ap, sym, subst, arith, drop, pos, ◌-ℤ◌, to_z, of_z, w32, ℤ, List, ℕ, true}
use Rattle.std.proofs.lemmas.Int.{ints}
use Rattle.pg_numbers.specs.Numeric.{are_digits, first_is_not_zero, from_digits, leading_zeros, shown, without_trailing}
use Rattle.pg_numbers.specs.Numeric.{max_digits}
use Rattle.pg_numbers.proofs.Canonical.{digits_after_zeros, first_after_zeros, from_first_after_zeros, without_first}
use Rattle.pg_numbers.proofs.Canonical.{zeros_within}
use Rattle.pg_numbers.proofs.numeric.Decimal.from_parts.Goals as goal

few_zeros : (c : goal.After-from) → c.trim_start-zeros.result ≤ max_digits
few_zeros c = omega (arith, c.trim_start-zeros.ensures.zeros, zeros_within c.args.digits.items, c.requires.short)

rest_is : (c : goal.After-from)
    → drop (leading_zeros c.args.digits.items) c.args.digits.items ≡ c.trim_start-zeros.new.digits.items
rest_is c = sym (c.trim_start-zeros.ensures.digits
    ∙ ap (λ n. drop n c.args.digits.items) c.trim_start-zeros.ensures.zeros)

pub overflow_cast-zeros : goal.overflow_cast-zeros
overflow_cast-zeros c = record { sfits = omega (arith, few_zeros c) }

pub overflow_sub-from : goal.overflow_sub-from
overflow_sub-from c =
    let few = few_zeros c in
    omega (arith, ints)

pub from_digits-requires-clause-digits : goal.from_digits-requires-clause-digits
from_digits-requires-clause-digits c =
    subst (λ ds. are_digits ds ≡ true) (rest_is c) (digits_after_zeros c.args.digits.items c.requires.digits)

pub from_digits-requires-clause-first : goal.from_digits-requires-clause-first
from_digits-requires-clause-first c =
    subst (λ ds. first_is_not_zero ds ≡ true) (rest_is c) (first_after_zeros c.args.digits.items)

pub from_digits-requires-clause-low : goal.from_digits-requires-clause-low
from_digits-requires-clause-low c =
    let few = few_zeros c in
    omega (arith, ints)

pub from_digits-requires-clause-high : goal.from_digits-requires-clause-high
from_digits-requires-clause-high c =
    let few = few_zeros c in
    omega (arith, ints)

pub returns : goal.returns
returns c =
    let zeros = c.trim_start-zeros.ensures.zeros in
    let within = zeros_within c.args.digits.items in
    let short = c.requires.short in
    let weight = c.from.ensures in
    let first : to_z w32 (of_z w32 (to_z w32 (of_z w32 c.from.result) -ℤ to_z w32 c.trim_start-zeros.result))
    ≡ c.args.weight -ℤ pos c.trim_start-zeros.result = omega (arith, ints) in
    let at = λ (z : ℤ) (ds : List ℕ). from_digits c.args.negative z c.args.scale (without_trailing
    (shown z c.args.scale ds)) in
    c.from_digits.ensures ∙ ap (λ z. at z c.trim_start-zeros.new.digits.items) first
    ∙ ap (at (c.args.weight -ℤ pos c.trim_start-zeros.result)) c.trim_start-zeros.ensures.digits
    ∙ ap (without_first c.args.negative c.args.weight c.args.scale c.args.digits.items) zeros
    ∙ from_first_after_zeros c.args.negative c.args.weight c.args.scale c.args.digits.items
