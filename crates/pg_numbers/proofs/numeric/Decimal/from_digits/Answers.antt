-- What the proof of `Decimal::from_digits` answers by hand.
use Rattle.std.proofs.Common.{◌≡◌, ◌∙◌, ap, sym, subst, arith, true, to_z, of_z, w16, w32, FitsSigned, length, ◌<◌, ℤ}
use Rattle.std.proofs.Common.{ℕ, List}
use Rattle.std.proofs.lemmas.Int.{ints, to_z-of_z}
use Rattle.std.proofs.lemmas.Bool.Decides.{nat_tests}
use Rattle.std.proofs.lemmas.Grind.{common_steps}
use Rattle.pg_numbers.specs.Numeric.{shown, without_trailing, parts, is_number}
use Rattle.pg_numbers.proofs.Canonical.{first_shows, from_some, is_not_empty, number_left, weight_fits, some_of_length}
use Rattle.pg_numbers.proofs.numeric.Decimal.from_digits.Goals as goal

left_is : (c : goal.Else-is_empty) → c.trim_end.new.digits.items
    ≡ without_trailing (shown c.args.weight c.args.scale c.args.digits.items)
left_is c =
    let weight : to_z w32 (of_z w32 c.args.weight) ≡ c.args.weight = omega (arith, ints) in
    grind (arith, common_steps, weight)

some_left : (c : goal.Else-is_empty) → is_not_empty (without_trailing
    (shown c.args.weight c.args.scale c.args.digits.items)) ≡ true
some_left c =
    let some : 0 < length c.trim_end.new.digits.items = grind (arith, nat_tests, common_steps) in
    some_of_length _ (omega (arith, some, ap length (left_is c)))

fit : (c : goal.Else-is_empty) → FitsSigned w16 c.args.weight
fit c =
    weight_fits c.args.weight c.args.scale
    (first_shows c.args.weight c.args.scale c.args.digits.items c.requires.digits
    (some_left c)) c.requires.scale c.requires.high

pub overflow_cast-result : goal.overflow_cast-result
overflow_cast-result c =
    let weight : to_z w32 (of_z w32 c.args.weight) ≡ c.args.weight = omega (arith, ints) in
    subst (FitsSigned w16) (sym weight) (fit c)

weight_back : (c : goal.Else-is_empty) → to_z w16 (of_z w16 (to_z w32 (of_z w32 c.args.weight))) ≡ c.args.weight
weight_back c =
    let weight : to_z w32 (of_z w32 c.args.weight) ≡ c.args.weight = omega (arith, ints) in
    ap (λ z. to_z w16 (of_z w16 z)) weight ∙ to_z-of_z w16 c.args.weight (fit c)

pub invariant_of-result : goal.invariant_of-result
invariant_of-result c =
    let number : ℤ → List ℕ → Type 0 = λ z ds. is_number (parts c.args.negative z c.args.scale ds) ≡ true in
    subst (λ z. number z c.trim_end.new.digits.items) (sym (weight_back c)) (subst (number c.args.weight) (sym
    (left_is c))
    (number_left c.args.negative c.args.weight c.args.scale c.args.digits.items c.requires.digits c.requires.first
    c.requires.short c.requires.scale c.requires.high (some_left c)))

pub returns-else-is_empty : goal.returns-else-is_empty
returns-else-is_empty c =
    ap (λ z. parts c.args.negative z c.args.scale c.trim_end.new.digits.items) (weight_back c)
    ∙ ap (parts c.args.negative c.args.weight c.args.scale) (left_is c)
    ∙ sym (from_some c.args.negative c.args.weight c.args.scale _ (some_left c))
