-- Lemmas on the places of digits: what the first so many count for, in units of the last place.
use Rattle.std.specs.Prelude.{◌≡◌, ℕ, zero, suc, ◌+◌, ◌-◌, ◌*◌, ◌/◌, ◌^◌, ◌<◌, ◌≤◌, ℤ, pos, negsuc, ◌-ℤ◌, ◌+ℤ◌}
use Rattle.std.specs.Prelude.{List, [], ◌∷◌, length, true, refl}
use Rattle.std.specs.Cmp.{nat_cmp_is}
use Rattle.std.specs.Cmp.Lexicographic.{slice_cmp}
use Rattle.std.specs.Ordering.{MatchOrdering, nat_cmp, ordering_then}
use Rattle.std.specs.declared.cmp.Ordering.{Ordering}
use Rattle.std.specs.declared.cmp.Ordering.TheVariants.{Less, Equal, Greater}
use Rattle.std.proofs.Common.{sym, ◌∙◌, ap, subst, arith, get_or, inl, inr}
use Rattle.std.proofs.Math.Nat.{mul-div_cancel, mul_assoc, mul-pos, one-le-pow}
use Rattle.std.proofs.lemmas.Bool.{and_parts, ltb-true}
use Rattle.std.proofs.lemmas.Bool.Decides.{eqb_tells, leb_tells}
use Rattle.std.proofs.lemmas.Int.{ints}
use Rattle.std.proofs.lemmas.Nat.{mul-add-lt, pow-add}
use Rattle.pg_numbers.specs.Numeric.{are_digits, base, before, digit_units, hidden, shown, units, without_decimals}
use Rattle.pg_numbers.specs.Numeric.{without_trailing}
use Rattle.pg_numbers.proofs.Canonical.{all_hidden}
use Rattle.pg_numbers.proofs.Units.{shown_of}

-- what the digits count for, where the first is so many places before the last one that counts
abbrev pub counted : List ℕ → ℕ → ℕ
counted [] places = 0
counted (digit ∷ digits) zero = 0
counted (digit ∷ digits) (suc places) = digit * 10 ^ (4 * places) + counted digits places

-- the power of a place more
pub next_power : (n : ℕ) → 10 ^ (4 * suc n) ≡ 10000 * 10 ^ (4 * n)
next_power n =
    let more : 4 * suc n ≡ 4 + 4 * n = omega arith in
    ap (λ k. 10 ^ k) more ∙ pow-add 10 4 (4 * n)

pub counted_none : (ds : List ℕ) → counted ds 0 ≡ 0
counted_none [] = refl
counted_none (d ∷ ds) = refl

-- a place more
next_place : (d p q x y g : ℕ) → q ≡ 10000 * p → x ≡ y * 10000 + g → d * q + x ≡ (d * p + y) * 10000 + g
next_place d p q x y g e h = rw e (omega (arith, h))

pub counted_next : (ds : List ℕ) (n : ℕ) → counted ds (suc n) ≡ counted ds n * 10000 + get_or ds n 0
counted_next [] n = refl
counted_next (d ∷ ds) zero = omega (arith, counted_none ds)
counted_next (d ∷ ds) (suc n) =
    next_place d (10 ^ (4 * n)) (10 ^ (4 * suc n)) (counted ds (suc n)) (counted ds n) (get_or ds n 0) (next_power n)
    (counted_next ds n)

-- they count for less than one before the first
pub counted_below : (ds : List ℕ) (n : ℕ) → are_digits ds ≡ true → counted ds n < 10 ^ (4 * n)
counted_below [] n h = one-le-pow (4 * n) 10 (omega arith)
counted_below (d ∷ ds) zero h = omega arith
counted_below (d ∷ ds) (suc n) h =
    let both = and_parts _ _ h in
    let first : d < base = ltb-true d base both.0 in
    let rest : counted ds n < 10 ^ (4 * n) = counted_below ds n both.1 in
    omega (arith, mul-add-lt d (10 ^ (4 * n)) (counted ds n) base first rest, next_power n)

-- ---- no zeros at the end
before_tail : (d : ℕ) (ws ds : List ℕ) → before d ws ≡ d ∷ ds → ws ≡ ds
before_tail d [] ds h = elim (eqb_tells d 0) [
  | inl none ↦
      let empty : before d [] ≡ [] = rw none.0 refl in
      let no : ⊥ = cc in
      absurd no
  | inr other ↦
      let one : before d [] ≡ d ∷ [] = rw other.0 refl in
      cc
]
before_tail d (w ∷ ws) ds h = cc

pub tail_trailing : (d : ℕ) (ds : List ℕ) → without_trailing (d ∷ ds) ≡ d ∷ ds → without_trailing ds ≡ ds
tail_trailing d ds h = before_tail d (without_trailing ds) ds h

last_other : (d : ℕ) → before d [] ≡ d ∷ [] → 0 < d
last_other d h = elim (eqb_tells d 0) [
  | inl none ↦
      let empty : before d [] ≡ [] = rw none.0 refl in
      let no : ⊥ = cc in
      absurd no
  | inr other ↦ omega (arith, other.1)
]

-- so digits count for something
pub counted_some : (d : ℕ) (ds : List ℕ) (n : ℕ) → length (d ∷ ds) ≤ n → without_trailing (d ∷ ds) ≡ d ∷ ds
    → 0 < counted (d ∷ ds) n
counted_some d ds zero h k = absurd (omega (arith, h))
counted_some d [] (suc n) h k =
    let some : 0 < d * 10 ^ (4 * n) = mul-pos (last_other d k) (one-le-pow (4 * n) 10 (omega arith)) in
    omega (arith, some)
counted_some d (e ∷ es) (suc n) h k =
    let rest : 0 < counted (e ∷ es) n = counted_some e es n (omega (arith, h)) (tail_trailing d (e ∷ es) k) in
    omega (arith, rest)

-- ---- digits compare as what they count for
pub match_map : (r : Ordering) (A B C X Y Z : Type 0) → (A → X) → (B → Y) → (C → Z) → MatchOrdering r A B C
    → MatchOrdering r X Y Z
match_map Less A B C X Y Z f g h m = f m
match_map Equal A B C X Y Z f g h m = g m
match_map Greater A B C X Y Z f g h m = h m

same_first : (r : Ordering) (d p x y : ℕ) → MatchOrdering r (x < y) (x ≡ y) (y < x)
    → MatchOrdering r (d * p + x < d * p + y) (d * p + x ≡ d * p + y) (d * p + y < d * p + x)
same_first r d p x y m =
    match_map r (x < y) (x ≡ y) (y < x) (d * p + x < d * p + y) (d * p + x ≡ d * p + y) (d * p + y < d * p + x)
    (λ h. omega (arith, h)) (λ h. omega (arith, h)) (λ h. omega (arith, h)) m

less_first : (d e p x y : ℕ) → d < e → x < p → d * p + x < e * p + y
less_first d e p x y h k = omega (arith, mul-add-lt d p x e h k)

pub counted_compare : (a b : List ℕ) (n : ℕ) → are_digits a ≡ true → are_digits b ≡ true → without_trailing a ≡ a
    → without_trailing b ≡ b → length a ≤ n → length b ≤ n
    → MatchOrdering (slice_cmp nat_cmp a b) (counted a n < counted b n) (counted a n ≡ counted b n)
    (counted b n < counted a n)
counted_compare [] [] n p q s t h k = refl
counted_compare [] (y ∷ ys) n p q s t h k = counted_some y ys n k t
counted_compare (x ∷ xs) [] n p q s t h k = counted_some x xs n h s
counted_compare (x ∷ xs) (y ∷ ys) zero p q s t h k = absurd (omega (arith, h))
counted_compare (x ∷ xs) (y ∷ ys) (suc n) p q s t h k =
    let first = and_parts _ _ p in
    let second = and_parts _ _ q in
    let power = 10 ^ (4 * n) in
    let a = counted xs n in
    let b = counted ys n in
    let Goal : Ordering → Type 0 = λ o. MatchOrdering (ordering_then o (slice_cmp nat_cmp xs ys))
    (x * power + a < y * power + b) (x * power + a ≡ y * power + b) (y * power + b < x * power + a) in
    elim (leb_tells y x) [
      | inl above ↦
          elim (leb_tells x y) [
            | inl below ↦
                let same : x ≡ y = omega (arith, above.1, below.1) in
                let equal : Equal ≡ nat_cmp x y = nat_cmp_is x y Equal same in
                let rest = counted_compare xs ys n first.1 second.1 (tail_trailing x xs s) (tail_trailing y ys t)
                (omega (arith, h)) (omega (arith, k)) in
                subst Goal equal (subst (λ z. MatchOrdering (slice_cmp nat_cmp xs ys) (x * power + a < z * power + b)
                (x * power + a ≡ z * power + b) (z * power + b < x * power + a)) same
                (same_first (slice_cmp nat_cmp xs ys) x power a b rest))
            | inr greater ↦
                let more : Greater ≡ nat_cmp x y = nat_cmp_is x y Greater greater.1 in
                subst Goal more (less_first y x power b a greater.1 (counted_below ys n second.1))
          ]
      | inr less ↦
          let fewer : Less ≡ nat_cmp x y = nat_cmp_is x y Less less.1 in
          subst Goal fewer (less_first x y power a b less.1 (counted_below xs n first.1))
    ]

-- ---- what they count for is their units

-- a product of three factors, two of which are powers
powers : (d i j k : ℕ) → i + j ≡ k → d * 10 ^ i * 10 ^ j ≡ d * 10 ^ k
powers d i j k e = mul_assoc d (10 ^ i) (10 ^ j) ∙ ap (λ x. d * x) (sym (pow-add 10 i j) ∙ ap (λ n. 10 ^ n) e)

digit_counted : (weight : ℤ) (scale k d n : ℕ) → scale ≤ 4 * k → weight +ℤ pos (k + 1) ≡ pos (suc n)
    → without_decimals (hidden weight scale) d ≡ d
    → digit_units weight scale d * 10 ^ (4 * k - scale) ≡ d * 10 ^ (4 * n)
digit_counted (pos w) scale k d n h e all =
    let places : n ≡ w + k = omega (arith, ints, e) in
    powers d (4 * w + scale) (4 * k - scale) (4 * n) (omega (arith, h, places))
digit_counted (negsuc w) scale k d n h e all = elim (leb_tells (4 * (w + 1)) scale) [
  | inl in_full ↦
      let places : k ≡ n + w + 1 = omega (arith, ints, e) in
      let left = scale - 4 * (w + 1) in
      let sum : left + 4 * (w + 1) ≡ scale = omega (arith, in_full.1) in
      let some : 0 < 10 ^ (4 * (w + 1)) = one-le-pow (4 * (w + 1)) 10 (omega arith) in
      let quotient : d * 10 ^ scale / 10 ^ (4 * (w + 1)) ≡ d * 10 ^ left =
      ap (λ x. x / 10 ^ (4 * (w + 1))) (sym (powers d left (4 * (w + 1)) scale sum)) ∙ mul-div_cancel (d * 10 ^ left) some in
      ap (λ x. x * 10 ^ (4 * k - scale)) quotient
      ∙ powers d left (4 * k - scale) (4 * n) (omega (arith, h, places, in_full.1))
  | inr in_part ↦
      let places : k ≡ n + w + 1 = omega (arith, ints, e) in
      let count = 4 * (w + 1) - scale in
      let sum : 4 * (w + 1) ≡ scale + count = omega (arith, in_part.1) in
      let power : 10 ^ (4 * (w + 1)) ≡ 10 ^ scale * 10 ^ count = ap (λ n. 10 ^ n) sum ∙ pow-add 10 scale count in
      ap (λ x. x * 10 ^ (4 * k - scale)) (shown_of d scale count (10 ^ (4 * (w + 1))) power)
      ∙ sym (powers (d / 10 ^ count) count (4 * n) (4 * k - scale) (omega (arith, h, places, in_part.1)))
      ∙ ap (λ x. x * 10 ^ (4 * n)) all
]

sum_counted : (a b r x y : ℕ) → a * r ≡ x → b * r ≡ y → (a + b) * r ≡ x + y
sum_counted a b r x y h k = omega (arith, h, k)

pub units_counted : (weight : ℤ) (scale k : ℕ) (ds : List ℕ) (n : ℕ) → scale ≤ 4 * k → weight +ℤ pos (k + 1) ≡ pos n
    → length ds ≤ n → shown weight scale ds ≡ ds → units weight scale ds * 10 ^ (4 * k - scale) ≡ counted ds n
units_counted weight scale k [] n h e many all = omega arith
units_counted weight scale k (d ∷ ds) zero h e many all = absurd (omega (arith, many))
units_counted weight scale k (d ∷ ds) (suc n) h e many all =
    let first : without_decimals (hidden weight scale) d ≡ d = cc in
    let rest : shown (weight -ℤ pos 1) scale ds ≡ ds = cc in
    sum_counted (digit_units weight scale d) (units (weight -ℤ pos 1) scale ds) (10 ^ (4 * k - scale))
    (d * 10 ^ (4 * n)) (counted ds n) (digit_counted weight scale k d n h e first)
    (units_counted (weight -ℤ pos 1) scale k ds n h (omega (arith, ints, e)) (omega (arith, many)) rest)

-- digits that the scale shows have no place after the last one
pub shown_places : (weight : ℤ) (scale k : ℕ) (ds : List ℕ) (n : ℕ) → scale ≤ 4 * k → weight +ℤ pos (k + 1) ≡ pos n
    → are_digits ds ≡ true → shown weight scale ds ≡ ds → without_trailing ds ≡ ds → length ds ≤ n
shown_places weight scale k [] n h e digits all end = omega arith
shown_places weight scale k (d ∷ ds) zero h e digits all end =
    let place : weight ≡ negsuc k = omega (arith, ints, e) in
    let far : 4 ≤ hidden weight scale = rw place (omega (arith, h)) in
    let none : without_trailing (shown weight scale (d ∷ ds)) ≡ [] = all_hidden weight scale (d ∷ ds) digits far in
    let empty : d ∷ ds ≡ [] = sym end ∙ ap without_trailing (sym all) ∙ none in
    let no : ⊥ = cc in
    absurd no
shown_places weight scale k (d ∷ ds) (suc n) h e digits all end =
    let rest : shown (weight -ℤ pos 1) scale ds ≡ ds = cc in
    omega (
      arith,
      shown_places (weight -ℤ pos 1) scale k ds n h (omega (arith, ints, e)) (and_parts _ _ digits).1 rest
          (tail_trailing d ds end),
    )
