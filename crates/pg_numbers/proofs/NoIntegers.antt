-- Numbers that are no integer, or none below a bound.
use Rattle.std.specs.Prelude.{◌≡◌, ℕ, ◌+◌, ◌*◌, ◌^◌, ◌<◌, ◌≤◌, ℤ, pos, negsuc, ◌+ℤ◌, ◌≤ℤ◌, length, true}
use Rattle.std.specs.Prelude.{Bool, FitsSigned, MatchOption, None, Option, Some, Result, Ok, Err}
use Rattle.std.specs.Int.{Width}
use Rattle.std.specs.Result.{OkIff, result_ok}
use Rattle.std.proofs.Common.{sym, ◌∙◌, ap, arith, inl, inr, subst}
use native.Mathlib.Nat.{eq_of_mul-eq-mul_right}
use Rattle.std.proofs.Math.Nat.{le_of_mul-le-mul_right, le-mul_of_pos_right, mul_assoc, one-le-pow}
use Rattle.std.proofs.lemmas.Bool.{cases_lt}
use Rattle.std.proofs.lemmas.Nat.{pow-add}
use Rattle.pg_numbers.specs.Laws.Numeric.{number_facts}
use Rattle.pg_numbers.specs.Numeric.{HasNoInteger, IsInteger, Parts, is_number, signed, units_of}
use Rattle.pg_numbers.proofs.Values.{has_fraction, is_below_one}

-- a number whose first digit stands after the first place after the point
pub none_below_one : (bound : ℕ) (p : Parts) → is_number p ≡ true → p.weight ≤ℤ negsuc 1
    → (n : ℕ) → units_of p ≡ n * 10 ^ p.scale → bound ≤ n
none_below_one bound p number low n e =
    let facts = number_facts p number in
    absurd (is_below_one p facts.itself facts.digits n low e)

-- a number with more digits than stand before the point
pub none_of_fraction : (bound : ℕ) (p : Parts) (count : ℕ) → is_number p ≡ true → p.weight +ℤ pos 1 ≡ pos count
    → count < length p.digits → (n : ℕ) → units_of p ≡ n * 10 ^ p.scale → bound ≤ n
none_of_fraction bound p count number place some n e =
    let facts = number_facts p number in
    absurd (has_fraction p facts.itself facts.digits count n place some e)

-- a number whose first digits are too great
pub above : (bound first left scale rest units n : ℕ) → first * 10 ^ (4 * left + scale) + rest ≡ units
    → bound ≤ first → units ≡ n * 10 ^ scale → bound ≤ n
above bound first left scale rest units n sum great e =
    let power : first * 10 ^ (4 * left + scale) ≡ first * 10 ^ (4 * left) * 10 ^ scale =
    ap (λ x. first * x) (pow-add 10 (4 * left) scale) ∙ sym (mul_assoc first (10 ^ (4 * left)) (10 ^ scale)) in
    let below : first * 10 ^ (4 * left) * 10 ^ scale ≤ n * 10 ^ scale = omega (arith, sum, power, e) in
    let whole : first * 10 ^ (4 * left) ≤ n =
    le_of_mul-le-mul_right below (one-le-pow scale 10 (omega arith)) in
    let part : first ≤ first * 10 ^ (4 * left) =
    le-mul_of_pos_right first (one-le-pow (4 * left) 10 (omega arith)) in
    omega (arith, great, whole, part)

-- what is not below a bound
pub not_below : (x bound : ℕ) → (x < bound → ⊥) → bound ≤ x
not_below x bound h = elim (cases_lt x bound) [
  | inl below ↦ absurd (h below)
  | inr at_least ↦ at_least
]

-- the only integer that a number is
only_integer : (p : Parts) (m : ℕ) (n : ℤ) → units_of p ≡ m * 10 ^ p.scale → IsInteger p n → n ≡ signed p.negative m
only_integer p m n e i =
    i.is ∙ ap (signed p.negative) (eq_of_mul-eq-mul_right (10 ^ p.scale) (one-le-pow p.scale 10 (omega arith))
    i.magnitude m (sym i.counts ∙ e))

-- the answer of a number of that magnitude
pub integer_answer : (w : Width) (p : Parts) (m : ℕ) (negative : Bool) (o : Option ℤ) → units_of p ≡ m * 10 ^ p.scale
    → negative ≡ p.negative
    → MatchOption o (FitsSigned w (signed negative m) → ⊥) (λ n. n ≡ signed negative m)
    → MatchOption o (HasNoInteger w p) (IsInteger p)
integer_answer w p m negative (Some n) e s h =
    record { magnitude = m; is = h ∙ ap (λ b. signed b m) s; counts = e }
integer_answer w p m negative None e s h =
    λ x i fit. h (subst (FitsSigned w) (only_integer p m x e i ∙ ap (λ b. signed b m) (sym s)) fit)

-- the answer at a narrower type, of a number that is an integer
pub narrower_answer : {E : Type 0} (w : Width) (p : Parts) (n : ℤ) (r : Result ℤ E) → IsInteger p n
    → OkIff r (FitsSigned w n) n → MatchOption (result_ok r) (HasNoInteger w p) (IsInteger p)
narrower_answer w p n (Ok m) i h = subst (IsInteger p) (sym h.1) i
narrower_answer w p n (Err e) i h =
    λ x j fit. h (subst (FitsSigned w) (only_integer p i.magnitude x i.counts j ∙ sym i.is) fit)
