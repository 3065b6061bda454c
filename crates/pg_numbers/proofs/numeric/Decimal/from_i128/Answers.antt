-- What the proof of `Decimal::from_i128` answers by hand.
use Rattle.std.specs.Prelude.{◌≡◌, ℤ, pos, negsuc, ◌&&◌, int_lt, nat_lt, unsigned_abs}
use Rattle.std.specs.Int.{w128}
use Rattle.std.proofs.Common.{◌∙◌, ap, arith, of_z, to_z}
use Rattle.std.proofs.lemmas.Bool.Decides.{nat_tests}
use Rattle.std.proofs.lemmas.Int.{to_z-of_z}
use Rattle.pg_numbers.specs.Laws.Numeric.{number_facts}
use Rattle.pg_numbers.specs.Numeric.{canonical, parts, units_of}
use Rattle.pg_numbers.proofs.ParsedNumbers.{signed_number}
use Rattle.pg_numbers.proofs.numeric.Decimal.from_i128.Goals as goal

-- 0 is not negative
sign_of : (n : ℤ) → (int_lt n (pos 0) && nat_lt 0 (unsigned_abs n)) ≡ int_lt n (pos 0)
sign_of (pos n) = grind (arith, nat_tests)
sign_of (negsuc n) = grind (arith, nat_tests)

pub returns-clause-negative : goal.returns-clause-negative
returns-clause-negative c =
    let n = c.args.n in
    let number = c.in_ok-number.number in
    let ds = c.digits_of-digits.result in
    let facts = number_facts number c.digits.ensures.number in
    let same : to_z w128 (of_z w128 n) ≡ n = to_z-of_z w128 n c.ranges.n in
    let made : number ≡ canonical (parts (int_lt n (pos 0)) (pos 9) 0 ds) =
    c.in_ok-number.ensures.1 ∙ ap (λ x. canonical (parts (int_lt x (pos 0)) (pos 9) 0 ds)) same in
    let units : units_of number ≡ unsigned_abs n =
    c.in_ok-number.ensures.3 ∙ c.digits_of-digits.ensures.value ∙ c.unsigned_abs.ensures.value ∙ ap unsigned_abs same in
    signed_number (parts (int_lt n (pos 0)) (pos 9) 0 ds) number made facts.itself facts.digits
    ∙ ap (λ u. int_lt n (pos 0) && nat_lt 0 u) units ∙ sign_of n
