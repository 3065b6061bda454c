-- Lemmas on the integers that numbers are.
use Rattle.std.specs.Prelude.{◌≡◌, ℕ, zero, suc, ◌+◌, ◌-◌, ◌*◌, ◌^◌, ◌<◌, ℤ, pos, ◌-ℤ◌, List, [], ◌∷◌, drop, refl}
use Rattle.std.proofs.Common.{sym, ◌∙◌, ap, arith, get_or, add-one, ◌+ℤ◌}
use Rattle.std.proofs.lemmas.Int.{ints}
use Rattle.std.proofs.lemmas.List.{get_or-drop}
use Rattle.std.proofs.lemmas.Nat.{pow-add}
use Rattle.pg_numbers.specs.Numeric.{units}

-- the first of the digits moves into what stands before them
pub units_next : (magnitude count scale : ℕ) (digits : List ℕ)
    → magnitude * 10 ^ (4 * (count + 1) + scale) + units (pos count) scale digits
    ≡ (magnitude * 10000 + get_or digits 0 0) * 10 ^ (4 * count + scale) + units (pos count -ℤ pos 1) scale
    (drop 1 digits)
units_next magnitude count scale digits =
    let exponent : 4 * (count + 1) + scale ≡ 4 + (4 * count + scale) = omega arith in
    let power : 10 ^ (4 * (count + 1) + scale) ≡ 10000 * 10 ^ (4 * count + scale) =
    ap (λ n. 10 ^ n) exponent ∙ pow-add 10 4 (4 * count + scale) in
    next magnitude count scale (10 ^ (4 * (count + 1) + scale)) digits power
  where
    next : (m k s p : ℕ) (ds : List ℕ) → p ≡ 10000 * 10 ^ (4 * k + s)
        → m * p + units (pos k) s ds ≡ (m * 10000 + get_or ds 0 0) * 10 ^ (4 * k + s) + units (pos k -ℤ pos 1) s
        (drop 1 ds)
    next m k s p [] e = rw e (omega arith)
    next m k s p (d ∷ ds) e = rw e (omega arith)

drop_next : (at : ℕ) (xs : List ℕ) → drop (suc at) xs ≡ drop 1 (drop at xs)
drop_next zero [] = refl
drop_next (suc at) [] = refl
drop_next zero (x ∷ xs) = refl
drop_next (suc at) (x ∷ xs) = drop_next at xs

-- a step of reading an integer, where so many digits stand before the point
pub units_step : (weight : ℤ) (scale magnitude digit count at : ℕ) (digits : List ℕ) → weight +ℤ pos 1 ≡ pos count
    → at < count → digit ≡ get_or digits at 0
    → magnitude * 10 ^ (4 * (count - at) + scale) + units (weight -ℤ pos at) scale (drop at digits)
    ≡ units weight scale digits
    → (magnitude * 10000 + digit) * 10 ^ (4 * (count - (at + 1)) + scale)
    + units (weight -ℤ pos (at + 1)) scale (drop (at + 1) digits)
    ≡ units weight scale digits
units_step weight scale magnitude digit count at digits whole below is so_far =
    let left = count - (at + 1) in
    let rest = drop at digits in
    let more : 4 * (left + 1) + scale ≡ 4 * (count - at) + scale = omega (arith, below) in
    let first : pos left ≡ weight -ℤ pos at = omega (arith, ints) in
    let next : weight -ℤ pos (at + 1) ≡ pos left -ℤ pos 1 = omega (arith, ints) in
    let one_more : drop (at + 1) digits ≡ drop 1 rest = rw add-one (drop_next at digits) in
    let same : digit ≡ get_or rest 0 0 =
    is ∙ sym (get_or-drop at digits 0 0 ∙ ap (λ n. get_or digits n 0) (omega arith)) in
    ap (λ z. (magnitude * 10000 + digit) * 10 ^ (4 * left + scale) + units z scale (drop (at + 1) digits)) next
    ∙ ap (λ ds. (magnitude * 10000 + digit) * 10 ^ (4 * left + scale) + units (pos left -ℤ pos 1) scale ds) one_more
    ∙ ap (λ d. (magnitude * 10000 + d) * 10 ^ (4 * left + scale) + units (pos left -ℤ pos 1) scale (drop 1 rest)) same
    ∙ sym (units_next magnitude left scale rest)
    ∙ ap (λ n. magnitude * 10 ^ n + units (pos left) scale rest) more
    ∙ ap (λ z. magnitude * 10 ^ (4 * (count - at) + scale) + units z scale rest) first ∙ so_far
