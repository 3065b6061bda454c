-- Lemmas on the weights of the digits that are written.
use Rattle.std.specs.Prelude.{◌≡◌, ℕ, zero, suc, ◌-◌, ◌<◌, ◌^◌, ℤ, pos, negsuc, ◌-ℤ◌, ◌<ℤ◌, ◌≤ℤ◌, FitsSigned, refl}
use Rattle.std.specs.Int.{w32}
use Rattle.std.proofs.Common.{sym, ◌∙◌, ap, subst, arith, inl, inr, of_z, to_z}
use Rattle.std.proofs.lemmas.Bool.{cases_lt}
use Rattle.std.proofs.lemmas.Int.{ints, to_z-of_z}
use Rattle.pg_numbers.specs.NumericTexts.{first_weight}

small : (n : ℕ) → n < 2 ^ 31 → FitsSigned w32 (pos n)
small n h = record { sfits = omega (arith, ints, h) }

small_negative : (n : ℕ) → n < 2 ^ 31 → FitsSigned w32 (negsuc n)
small_negative n h = record { sfits = omega (arith, ints, h) }

pub place_fits : (place : ℕ) → place < 2 ^ 16 → (r : ℤ) → r ≡ pos place → FitsSigned w32 r
place_fits place h r e = subst (FitsSigned w32) (sym e) (small place (omega (arith, h)))

pub weight_fits : (z : ℤ) (place : ℕ) → negsuc 0 ≤ℤ z → z ≤ℤ pos 32767 → place < 2 ^ 16
    → FitsSigned w32 (z -ℤ pos place)
weight_fits (pos n) place low high h =
    let bound : n < 32768 = omega (arith, ints, high) in
    elim (cases_lt n place) [
      | inl below ↦
          let is : pos n -ℤ pos place ≡ negsuc (place - n - 1) = omega (arith, ints, below) in
          subst (FitsSigned w32) (sym is) (small_negative (place - n - 1) (omega (arith, h)))
      | inr above ↦
          let is : pos n -ℤ pos place ≡ pos (n - place) = omega (arith, ints, above) in
          subst (FitsSigned w32) (sym is) (small (n - place) (omega (arith, bound)))
    ]
weight_fits (negsuc zero) place low high h =
    let is : negsuc 0 -ℤ pos place ≡ negsuc place = omega (arith, ints) in
    subst (FitsSigned w32) (sym is) (small_negative place (omega (arith, h)))
weight_fits (negsuc (suc n)) place low high h = absurd (omega (arith, ints, low))

-- the numbers that the code computes
pub same_weight : (r : ℤ) (n : ℕ) → r ≡ pos n → n < 2 ^ 16 → to_z w32 (of_z w32 r) ≡ pos n
same_weight r n e h = to_z-of_z w32 r (place_fits n h r e) ∙ e

pub weight_below : (z r : ℤ) (place : ℕ) → r ≡ pos place → place < 2 ^ 16 → negsuc 0 ≤ℤ z → z ≤ℤ pos 32767
    → to_z w32 (of_z w32 (z -ℤ to_z w32 (of_z w32 r))) ≡ z -ℤ pos place
weight_below z r place e h low high =
    ap (λ x. to_z w32 (of_z w32 (z -ℤ x))) (same_weight r place e h)
    ∙ to_z-of_z w32 (z -ℤ pos place) (weight_fits z place low high h)

pub after_point : (r : ℤ) (place : ℕ) → r ≡ pos place → place < 2 ^ 16
    → to_z w32 (of_z w32 (negsuc 0 -ℤ to_z w32 (of_z w32 r))) ≡ negsuc place
after_point r place e h =
    let is : negsuc 0 -ℤ pos place ≡ negsuc place = omega (arith, ints) in
    weight_below (negsuc 0) r place e h (omega (arith, ints)) (omega (arith, ints)) ∙ is

pub one_below : (r : ℤ) (n : ℕ) → r ≡ pos n → n < 2 ^ 15
    → to_z w32 (of_z w32 (to_z w32 (of_z w32 r) -ℤ pos 1)) ≡ pos n -ℤ pos 1
one_below r n e h =
    ap (λ x. to_z w32 (of_z w32 (x -ℤ pos 1))) (same_weight r n e (omega (arith, h)))
    ∙ to_z-of_z w32 (pos n -ℤ pos 1) (weight_fits (pos n) 1 (omega (arith, ints)) (omega (arith, ints, h)) (omega arith))

pub first_negative : (w : ℤ) → w <ℤ pos 0 → first_weight w ≡ 0
first_negative (pos n) h = absurd (omega (arith, ints, h))
first_negative (negsuc n) h = refl

pub first_positive : (w : ℤ) (n : ℕ) → w ≡ pos n → first_weight w ≡ n
first_positive w n e = ap first_weight e

pub first_below : (w : ℤ) → w ≤ℤ pos 32767 → first_weight w < 2 ^ 15
first_below (pos n) h = omega (arith, ints, h)
first_below (negsuc n) h = omega arith
