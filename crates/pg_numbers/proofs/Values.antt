-- Lemmas on the values of numbers: they are in the order of what their digits count for.
use Rattle.std.specs.Prelude.{◌≡◌, ℕ, zero, suc, ◌+◌, ◌-◌, ◌*◌, ◌%◌, ◌^◌, ◌<◌, ◌≤◌, ℤ, pos, negsuc, ◌-ℤ◌, ◌+ℤ◌, ◌≤ℤ◌, ◌⊎◌}
use Rattle.std.specs.Prelude.{List, [], ◌∷◌, length, Bool, true, false, not, refl}
use Rattle.std.proofs.Common.{sym, ◌∙◌, ap, arith, inl, inr}
use Rattle.std.proofs.Math.Nat.{mul_assoc, pow-le-pow_right}
use Rattle.std.proofs.lemmas.Bool.{and_parts}
use Rattle.std.proofs.lemmas.Bool.Decides.{eqb_tells}
use Rattle.std.proofs.lemmas.Int.{ints}
use Rattle.std.proofs.lemmas.Nat.{mod-mul-add, pow-add}
use Rattle.pg_numbers.specs.Numeric.{Parts, are_digits, canonical, first_is_not_zero, from_digits, from_first}
use Rattle.pg_numbers.specs.Numeric.{hidden, parts, shown, units_of, without_trailing}
use Rattle.pg_numbers.proofs.Canonical.{first_shows, length_left, shown_twice, some_of_length, trailing_twice}
use Rattle.pg_numbers.proofs.Places.{counted, counted_below, counted_some, shown_places, tail_trailing, units_counted}

-- ---- what holds of the digits of a number

pub record IsTight (p : Parts) : Type 0 where
  pub first : first_is_not_zero p.digits ≡ true
  pub all : shown p.weight p.scale p.digits ≡ p.digits
  pub end : without_trailing p.digits ≡ p.digits

digits_of_parts : (negative : Bool) (weight : ℤ) (scale : ℕ) (ds : List ℕ)
    → (from_digits negative weight scale ds).digits ≡ ds
digits_of_parts negative weight scale [] = refl
digits_of_parts negative weight scale (d ∷ ds) = refl

first_length : (negative : Bool) (weight : ℤ) (scale : ℕ) (ds : List ℕ)
    → length (from_first negative weight scale ds).digits ≤ length ds
first_length negative weight scale [] = omega arith
first_length negative weight scale (d ∷ ds) = elim (eqb_tells d 0) [
  | inl none ↦
      let step : from_first negative weight scale (d ∷ ds) ≡ from_first negative (weight -ℤ pos 1) scale ds =
      rw none.0 refl in
      omega (arith, ap (λ q. length q.digits) step, first_length negative (weight -ℤ pos 1) scale ds)
  | inr other ↦
      let left = without_trailing (shown weight scale (d ∷ ds)) in
      let step : from_first negative weight scale (d ∷ ds) ≡ from_digits negative weight scale left = rw other.0 refl in
      omega (
        arith,
        ap (λ q. length q.digits) step,
        ap length (digits_of_parts negative weight scale left),
        length_left weight scale (d ∷ ds),
      )
]

tight_digits : (negative : Bool) (weight : ℤ) (scale : ℕ) (ds : List ℕ)
    → from_first negative weight scale ds ≡ parts negative weight scale ds → IsTight (parts negative weight scale ds)
tight_digits negative weight scale [] e = record { first = refl; all = refl; end = refl }
tight_digits negative weight scale (d ∷ ds) e = elim (eqb_tells d 0) [
  | inl none ↦
      let step : from_first negative weight scale (d ∷ ds) ≡ from_first negative (weight -ℤ pos 1) scale ds =
      rw none.0 refl in
      absurd (omega (
        arith,
        ap (λ q. length q.digits) (sym e ∙ step),
        first_length negative (weight -ℤ pos 1) scale ds,
      ))
  | inr other ↦
      let left = without_trailing (shown weight scale (d ∷ ds)) in
      let step : from_first negative weight scale (d ∷ ds) ≡ from_digits negative weight scale left = rw other.0 refl in
      let same : left ≡ d ∷ ds =
      sym (digits_of_parts negative weight scale left) ∙ ap (λ q. q.digits) (sym step ∙ e) in
      record {
        first = ap not other.0;
        all = ap (shown weight scale) (sym same) ∙ shown_twice weight scale (d ∷ ds) ∙ same;
        end = ap without_trailing (sym same) ∙ trailing_twice (shown weight scale (d ∷ ds)) ∙ same;
      }
]

pub is_tight : (p : Parts) → canonical p ≡ p → IsTight p
is_tight p e = tight_digits p.negative p.weight p.scale p.digits e

-- the number 0 has no sign and no weight
zero_digits : (negative : Bool) (weight : ℤ) (scale : ℕ) (ds : List ℕ)
    → from_first negative weight scale ds ≡ parts negative weight scale ds → ds ≡ []
    → (negative ≡ false) × (weight ≡ pos 0)
zero_digits negative weight scale [] e none = (ap (λ q. q.negative) (sym e), ap (λ q. q.weight) (sym e))
zero_digits negative weight scale (d ∷ ds) e none = let no : ⊥ = cc in absurd no

pub zero_is : (p : Parts) → canonical p ≡ p → p.digits ≡ [] → (p.negative ≡ false) × (p.weight ≡ pos 0)
zero_is p e none = zero_digits p.negative p.weight p.scale p.digits e none

-- the first digit of another number has a place before the last one that is shown
shown_at : (weight : ℤ) (scale k : ℕ) → scale ≤ 4 * k → hidden weight scale < 4
    → (n : ℕ) × (weight +ℤ pos (k + 1) ≡ pos (suc n))
shown_at (pos w) scale k h some = (w + k, omega (arith, ints))
shown_at (negsuc w) scale k h some = (k - (w + 1), omega (arith, ints, h, some))

pub has_places : (p : Parts) → canonical p ≡ p → are_digits p.digits ≡ true → 0 < length p.digits → (k : ℕ)
    → p.scale ≤ 4 * k → (n : ℕ) × (p.weight +ℤ pos (k + 1) ≡ pos (suc n))
has_places p e digits some k h =
    let tight = is_tight p e in
    let left : without_trailing (shown p.weight p.scale p.digits) ≡ p.digits =
    ap without_trailing tight.all ∙ tight.end in
    shown_at p.weight p.scale k h (first_shows p.weight p.scale p.digits digits
    (some_of_length (without_trailing (shown p.weight p.scale p.digits)) (omega (arith, ap length left, some))))

-- ---- numbers with a fraction

abbrev pub Splits : ℕ → ℕ → Type 0
Splits n power = (x y : ℕ) × (n ≡ x * power + y) × (0 < y) × (y < power)

more_splits : (d p power n : ℕ) (x y : ℕ) → n ≡ x * power + y → d * (p * power) + n ≡ (d * p + x) * power + y
more_splits d p power n x y e = omega (arith, e)

-- where a digit that is not 0 stands after the point
counted_splits : (ds : List ℕ) (count k : ℕ) → are_digits ds ≡ true → without_trailing ds ≡ ds → count < length ds
    → length ds ≤ count + k → Splits (counted ds (count + k)) (10 ^ (4 * k))
counted_splits [] count k digits end some all = absurd (omega (arith, some))
counted_splits (d ∷ ds) zero k digits end some all =
    let same : counted (d ∷ ds) (0 + k) ≡ counted (d ∷ ds) k = ap (counted (d ∷ ds)) (omega arith) in (
      0,
      counted (d ∷ ds) k,
      omega (arith, same),
      counted_some d ds k (omega (arith, all)) end,
      counted_below (d ∷ ds) k digits,
    )
counted_splits (d ∷ ds) (suc count) k digits end some all =
    let rest = counted_splits ds count k (and_parts _ _ digits).1 (tail_trailing d ds end) (omega (arith, some))
    (omega (arith, all)) in
    let next : suc count + k ≡ suc (count + k) = omega arith in
    let step : counted (d ∷ ds) (suc count + k) ≡ d * 10 ^ (4 * (count + k)) + counted ds (count + k) =
    ap (counted (d ∷ ds)) next in
    let sum : 4 * (count + k) ≡ 4 * count + 4 * k = omega arith in
    let power : 10 ^ (4 * (count + k)) ≡ 10 ^ (4 * count) * 10 ^ (4 * k) =
    ap (λ n. 10 ^ n) sum ∙ pow-add 10 (4 * count) (4 * k) in (
      d * 10 ^ (4 * count) + rest.0,
      rest.1,
      step ∙ ap (λ p. d * p + counted ds (count + k)) power
          ∙ more_splits d (10 ^ (4 * count)) (10 ^ (4 * k)) (counted ds (count + k)) rest.0 rest.1 rest.2,
      rest.3,
      rest.4,
    )

not_whole : (n power m : ℕ) → Splits n power → n ≡ m * power → ⊥
not_whole n power m s e =
    let small : (s.0 * power + s.1) % power ≡ s.1 = mod-mul-add s.0 power s.1 s.4 in
    let none : (m * power + 0) % power ≡ 0 = mod-mul-add m power 0 (omega (arith, s.3, s.4)) in
    let plain : m * power + 0 ≡ m * power = omega arith in
    let same : s.1 ≡ 0 = sym small ∙ ap (λ x. x % power) (sym s.2 ∙ e ∙ sym plain) ∙ none in
    omega (arith, same, s.3)

-- the units of an integer, in units of the last place
whole_places : (u m scale k : ℕ) → scale ≤ 4 * k → u ≡ m * 10 ^ scale → u * 10 ^ (4 * k - scale) ≡ m * 10 ^ (4 * k)
whole_places u m scale k h e =
    let sum : scale + (4 * k - scale) ≡ 4 * k = omega (arith, h) in
    ap (λ x. x * 10 ^ (4 * k - scale)) e ∙ mul_assoc m (10 ^ scale) (10 ^ (4 * k - scale))
    ∙ ap (λ x. m * x) (sym (pow-add 10 scale (4 * k - scale)) ∙ ap (λ n. 10 ^ n) sum)

-- a number with more digits than stand before the point is no integer
pub has_fraction : (p : Parts) → canonical p ≡ p → are_digits p.digits ≡ true → (count m : ℕ)
    → p.weight +ℤ pos 1 ≡ pos count → count < length p.digits → units_of p ≡ m * 10 ^ p.scale → ⊥
has_fraction p e digits count m before_point some integer =
    let tight = is_tight p e in
    let k = p.scale in
    let h : p.scale ≤ 4 * k = omega arith in
    let place : p.weight +ℤ pos (k + 1) ≡ pos (count + k) = omega (arith, ints, before_point) in
    let many : length p.digits ≤ count + k =
    shown_places p.weight p.scale k p.digits (count + k) h place digits tight.all tight.end in
    let splits = counted_splits p.digits count k digits tight.end some many in
    not_whole (counted p.digits (count + k)) (10 ^ (4 * k)) m splits
    (sym (units_counted p.weight p.scale k p.digits (count + k) h place many tight.all)
    ∙ whole_places (units_of p) m p.scale k h integer)

below_power : (c m power : ℕ) → c ≡ m * power → c < power → c ≡ 0
below_power c zero power e h = omega (arith, e)
below_power c (suc m) power e h = absurd (omega (arith, e, h))

pub some_counted : (ds : List ℕ) (n : ℕ) → 0 < length ds → length ds ≤ n → without_trailing ds ≡ ds → 0 < counted ds n
some_counted [] n some many end = absurd (omega (arith, some))
some_counted (d ∷ ds) n some many end = counted_some d ds n many end

pub none_or_some : (ds : List ℕ) → (ds ≡ []) ⊎ (0 < length ds)
none_or_some [] = inl refl
none_or_some (d ∷ ds) = inr (omega arith)

-- nor is one whose first digit stands after the first place after the point
pub is_below_one : (p : Parts) → canonical p ≡ p → are_digits p.digits ≡ true → (m : ℕ) → p.weight ≤ℤ negsuc 1
    → units_of p ≡ m * 10 ^ p.scale → ⊥
is_below_one p e digits m low integer = elim (none_or_some p.digits) [
  | inl none ↦
      let zero = zero_is p e none in
      let weight : p.weight ≡ pos 0 = zero.1 in
      omega (arith, ints, weight, low)
  | inr some ↦
      let tight = is_tight p e in
      let k = p.scale in
      let h : p.scale ≤ 4 * k = omega arith in
      let place = has_places p e digits some k h in
      let n = place.0 in
      let at : p.weight +ℤ pos (k + 1) ≡ pos (suc n) = place.1 in
      let many : length p.digits ≤ suc n =
      shown_places p.weight p.scale k p.digits (suc n) h at digits tight.all tight.end in
      let low : suc n ≤ k = omega (arith, ints, at, low) in
      let less : counted p.digits (suc n) < 10 ^ (4 * suc n) = counted_below p.digits (suc n) digits in
      let power : 10 ^ (4 * suc n) ≤ 10 ^ (4 * k) =
      pow-le-pow_right {n = 10} (omega arith) {i = 4 * suc n} {j = 4 * k} (omega (arith, low)) in
      let whole : counted p.digits (suc n) ≡ m * 10 ^ (4 * k) =
      sym (units_counted p.weight p.scale k p.digits (suc n) h at many tight.all)
      ∙ whole_places (units_of p) m p.scale k h integer in
      let nothing : counted p.digits (suc n) ≡ 0 =
      below_power (counted p.digits (suc n)) m (10 ^ (4 * k)) whole (omega (arith, less, power)) in
      let something : 0 < counted p.digits (suc n) = some_counted p.digits (suc n) some many tight.end in
      omega (arith, nothing, something)
]
