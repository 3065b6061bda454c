-- Lemmas on digits: which the scale shows, and the zeros at their end.
use Rattle.std.specs.Prelude.{◌≡◌, ◌≢◌, ℕ, zero, suc, ◌+◌, ◌/◌, ◌^◌, ◌<◌, ◌≤◌, ℤ, pos}
use Rattle.std.specs.Prelude.{◌-ℤ◌, List, [], ◌∷◌, length, refl}
use Rattle.std.proofs.Common.{sym, ◌∙◌, ap, arith, get_or, take}
use Rattle.std.proofs.Math.Nat.{div-eq_of_lt, pow-le-pow_right}
use Rattle.std.proofs.lemmas.Bool.Decides.{nat_tests}
use Rattle.std.proofs.lemmas.Int.{ints}
use Rattle.std.proofs.lemmas.List.{ext_get_or}
use Rattle.pg_numbers.specs.Numeric.{base, before, hidden, shown, without_decimals, without_trailing}

-- ---- decimals that the scale does not show

-- of a digit without its four decimals, or more, nothing is left
pub without_all : (count digit : ℕ) → 4 ≤ count → digit < base → without_decimals count digit ≡ 0
without_all count digit h k =
    let big : base ≤ 10 ^ count = pow-le-pow_right {n = 10} (omega arith) {i = 4} {j = count} h in
    let none : digit / 10 ^ count ≡ 0 = div-eq_of_lt {n = digit} {m = 10 ^ count} (omega arith) in
    rw none (omega arith)

length-shown : (weight : ℤ) (scale : ℕ) (digits : List ℕ) → length (shown weight scale digits) ≡ length digits
length-shown weight scale [] = refl
length-shown weight scale (d ∷ ds) = ap suc (length-shown (weight -ℤ pos 1) scale ds)

pub shown_at : (weight : ℤ) (scale : ℕ) (digits : List ℕ) (i : ℕ) → i < length digits
    → get_or (shown weight scale digits) i 0 ≡ without_decimals (hidden (weight -ℤ pos i) scale) (get_or digits i 0)
shown_at weight scale [] i h = absurd (omega (arith, h))
shown_at weight scale (d ∷ ds) zero h =
    let same : weight -ℤ pos 0 ≡ weight = omega (arith, ints) in
    rw same refl
shown_at weight scale (d ∷ ds) (suc i) h =
    let same : weight -ℤ pos 1 -ℤ pos i ≡ weight -ℤ pos (suc i) = omega (arith, ints) in
    shown_at (weight -ℤ pos 1) scale ds i (omega (arith, h))
    ∙ ap (λ z. without_decimals (hidden z scale) (get_or ds i 0)) same

-- digits of which each is replaced so
pub shown_by_index : (weight : ℤ) (scale : ℕ) (old new : List ℕ) → length new ≡ length old
    → ((i : ℕ) → i < length old
    → get_or new i 0 ≡ without_decimals (hidden (weight -ℤ pos i) scale) (get_or old i 0))
    → new ≡ shown weight scale old
shown_by_index weight scale old new many each =
    ext_get_or 0 new (shown weight scale old) (many ∙ sym (length-shown weight scale old))
    (λ i h. let below : i < length old =
    omega (arith, h, many) in each i below ∙ sym (shown_at weight scale old i below))

-- ---- zeros at the end

-- a last digit that is 0 is left out
pub trailing_popped : (xs : List ℕ) (n : ℕ) → length xs ≡ n + 1 → get_or xs n 0 ≡ 0
    → without_trailing (take n xs) ≡ without_trailing xs
trailing_popped [] n h z = absurd (omega (arith, h))
trailing_popped (x ∷ []) zero h z = rw z refl
trailing_popped (x ∷ []) (suc n) h z = absurd (omega (arith, h))
trailing_popped (x ∷ y ∷ ys) zero h z = absurd (omega (arith, h))
trailing_popped (x ∷ y ∷ ys) (suc n) h z = ap (before x) (trailing_popped (y ∷ ys) n (omega (arith, h)) z)

-- and digits of which the last is another are all kept
pub trailing_kept : (xs : List ℕ) (n : ℕ) → length xs ≡ n + 1 → get_or xs n 0 ≢ 0 → without_trailing xs ≡ xs
trailing_kept [] n h z = absurd (omega (arith, h))
trailing_kept (x ∷ []) zero h z = grind (arith, nat_tests, z)
trailing_kept (x ∷ []) (suc n) h z = absurd (omega (arith, h))
trailing_kept (x ∷ y ∷ ys) zero h z = absurd (omega (arith, h))
trailing_kept (x ∷ y ∷ ys) (suc n) h z =
    ap (before x) (trailing_kept (y ∷ ys) n (omega (arith, h)) z)
