-- Numbers are in the order of their values.
use Rattle.std.specs.Prelude.{◌≡◌, ℕ, zero, suc, ◌+◌, ◌-◌, ◌*◌, ◌^◌, ◌<◌, ◌≤◌, ◌<ℤ◌, ℤ, pos, ◌+ℤ◌}
use Rattle.std.specs.Prelude.{List, [], ◌∷◌, length, Bool, true, false, refl}
use Rattle.std.specs.Cmp.{int_cmp_is}
use Rattle.std.specs.Cmp.Lexicographic.{slice_cmp}
use Rattle.std.specs.Ordering.{MatchOrdering, int_cmp, nat_cmp, ordering_then}
use Rattle.std.specs.declared.cmp.Ordering.{Ordering}
use Rattle.std.specs.declared.cmp.Ordering.TheVariants.{Less, Equal, Greater}
use Rattle.std.proofs.Common.{sym, ◌∙◌, ap, subst, arith, inl, inr}
use native.Mathlib.Nat.{eq_of_mul-eq-mul_right}
use Rattle.std.proofs.Math.Nat.{lt_of_mul-lt-mul_right, mul-pos, mul_assoc, one-le-pow, pow-le-pow_right}
use Rattle.std.proofs.lemmas.Bool.{cases_order}
use Rattle.std.proofs.lemmas.Bool.Decides.{eqb_tells}
use Rattle.std.proofs.lemmas.Int.{ints}
use Rattle.std.proofs.lemmas.Map.Lookups.{exact_bytes, exact_signed}
use Rattle.std.proofs.lemmas.Nat.{mul-le, pow-add}
use Rattle.pg_numbers.specs.Numeric.{Parts, are_digits, canonical, first_is_not_zero, parts, signed, signed_units, units_of}
use Rattle.pg_numbers.specs.NumericOrder.{magnitude_cmp, number_cmp}
use Rattle.pg_numbers.proofs.Places.{counted, counted_below, counted_compare, match_map, shown_places, units_counted}
use Rattle.pg_numbers.proofs.Values.{has_places, is_tight, none_or_some, some_counted, zero_is}

-- a first digit that is not 0 counts for a unit of its place at least
counted_least : (ds : List ℕ) (n : ℕ) → 0 < length ds → first_is_not_zero ds ≡ true → 10 ^ (4 * n) ≤ counted ds (suc n)
counted_least [] n some h = absurd (omega (arith, some))
counted_least (d ∷ ds) n some h = elim (eqb_tells d 0) [
  | inl none ↦
      let not_first : first_is_not_zero (d ∷ ds) ≡ false = rw none.0 refl in
      let no : ⊥ = cc in
      absurd no
  | inr other ↦
      let one : 1 ≤ d = omega (arith, other.1) in
      let least : 1 * 10 ^ (4 * n) ≤ d * 10 ^ (4 * n) = mul-le 1 (10 ^ (4 * n)) d (10 ^ (4 * n)) one (omega arith) in
      omega (arith, least)
]

less_places : (a b : List ℕ) (m n : ℕ) → are_digits a ≡ true → 0 < length b → first_is_not_zero b ≡ true → m < n
    → counted a (suc m) < counted b (suc n)
less_places a b m n digits some first h =
    let power : 10 ^ (4 * suc m) ≤ 10 ^ (4 * n) =
    pow-le-pow_right {n = 10} (omega arith) {i = 4 * suc m} {j = 4 * n} (omega (arith, h)) in
    omega (arith, counted_below a (suc m) digits, power, counted_least b n some first)

-- a common factor is left out
without_factor : (o : Ordering) (x y r : ℕ) → 0 < r → MatchOrdering o (x * r < y * r) (x * r ≡ y * r) (y * r < x * r)
    → MatchOrdering o (x < y) (x ≡ y) (y < x)
without_factor o x y r some m =
    match_map o (x * r < y * r) (x * r ≡ y * r) (y * r < x * r) (x < y) (x ≡ y) (y < x)
    (λ h. lt_of_mul-lt-mul_right r h) (eq_of_mul-eq-mul_right r some x y) (λ h. lt_of_mul-lt-mul_right r h) m

-- the units at a common scale, in units of the last place
common_units : (u s t k c : ℕ) → s + t ≤ 4 * k → u * 10 ^ (4 * k - s) ≡ c
    → u * 10 ^ t * 10 ^ (4 * k - (s + t)) ≡ c
common_units u s t k c h e =
    let sum : t + (4 * k - (s + t)) ≡ 4 * k - s = omega (arith, h) in
    mul_assoc u (10 ^ t) (10 ^ (4 * k - (s + t)))
    ∙ ap (λ x. u * x) (sym (pow-add 10 t (4 * k - (s + t))) ∙ ap (λ n. 10 ^ n) sum) ∙ e

then_first : (o r : Ordering) (A B C : Type 0) → (o ≡ Less) → A → MatchOrdering (ordering_then o r) A B C
then_first o r A B C e a = rw e a

then_last : (o r : Ordering) (A B C : Type 0) → (o ≡ Greater) → C → MatchOrdering (ordering_then o r) A B C
then_last o r A B C e c = rw e c

then_equal : (o r : Ordering) (A B C : Type 0) → (o ≡ Equal) → MatchOrdering r A B C
    → MatchOrdering (ordering_then o r) A B C
then_equal o r A B C e m = rw e m

-- absolute values that are not 0
pub magnitudes : (a b : Parts) → canonical a ≡ a → canonical b ≡ b → are_digits a.digits ≡ true
    → are_digits b.digits ≡ true → 0 < length a.digits → 0 < length b.digits
    → MatchOrdering (magnitude_cmp a b) (units_of a * 10 ^ b.scale < units_of b * 10 ^ a.scale)
    (units_of a * 10 ^ b.scale ≡ units_of b * 10 ^ a.scale) (units_of b * 10 ^ a.scale < units_of a * 10 ^ b.scale)
magnitudes a b ea eb da db sa sb =
    let k = a.scale + b.scale in
    let ha : a.scale ≤ 4 * k = omega arith in
    let hb : b.scale ≤ 4 * k = omega arith in
    let ta = is_tight a ea in
    let tb = is_tight b eb in
    let pa = has_places a ea da sa k ha in
    let pb = has_places b eb db sb k hb in
    let m = pa.0 in
    let n = pb.0 in
    let at : a.weight +ℤ pos (k + 1) ≡ pos (suc m) = pa.1 in
    let bt : b.weight +ℤ pos (k + 1) ≡ pos (suc n) = pb.1 in
    let la = shown_places a.weight a.scale k a.digits (suc m) ha at da ta.all ta.end in
    let lb = shown_places b.weight b.scale k b.digits (suc n) hb bt db tb.all tb.end in
    let r = 10 ^ (4 * k - (a.scale + b.scale)) in
    let some : 0 < r = one-le-pow (4 * k - (a.scale + b.scale)) 10 (omega arith) in
    let ua : units_of a * 10 ^ b.scale * r ≡ counted a.digits (suc m) =
    common_units (units_of a) a.scale b.scale k (counted a.digits (suc m)) (omega arith)
    (units_counted a.weight a.scale k a.digits (suc m) ha at la ta.all) in
    let swap : 4 * k - (b.scale + a.scale) ≡ 4 * k - (a.scale + b.scale) = omega arith in
    let ub : units_of b * 10 ^ a.scale * r ≡ counted b.digits (suc n) =
    ap (λ e. units_of b * 10 ^ a.scale * 10 ^ e) (sym swap)
    ∙ common_units (units_of b) b.scale a.scale k (counted b.digits (suc n)) (omega arith)
    (units_counted b.weight b.scale k b.digits (suc n) hb bt lb tb.all) in
    let x = units_of a * 10 ^ b.scale in
    let y = units_of b * 10 ^ a.scale in
    let Goal : ℕ → ℕ → Type 0 = λ c d. MatchOrdering (magnitude_cmp a b) (c < d) (c ≡ d) (d < c) in
    let digits = slice_cmp nat_cmp a.digits b.digits in
    let weights = int_cmp a.weight b.weight in
    let c = counted a.digits (suc m) in
    let d = counted b.digits (suc n) in
    let compared : Goal c d = elim (cases_order m n) [
      | inl same ↦
          let weight : a.weight ≡ b.weight = omega (arith, ints, at, bt, same) in
          let equal : weights ≡ Equal = sym (int_cmp_is a.weight b.weight Equal weight) in
          let fewer : length b.digits ≤ suc m = omega (arith, lb, same) in
          let all = counted_compare a.digits b.digits (suc m) da db ta.end tb.end la fewer in
          then_equal weights digits (c < d) (c ≡ d) (d < c) equal
          (subst (λ p. MatchOrdering digits (c < counted b.digits (suc p)) (c ≡ counted b.digits (suc p))
          (counted b.digits (suc p) < c)) same all)
      | inr other ↦ elim other [
        | inl less ↦
            let weight : a.weight <ℤ b.weight = omega (arith, ints, at, bt, less) in
            then_first weights digits (c < d) (c ≡ d) (d < c)
            (sym (int_cmp_is a.weight b.weight Less weight))
            (less_places a.digits b.digits m n da sb tb.first less)
        | inr greater ↦
            let weight : b.weight <ℤ a.weight = omega (arith, ints, at, bt, greater) in
            then_last weights digits (c < d) (c ≡ d) (d < c)
            (sym (int_cmp_is a.weight b.weight Greater weight))
            (less_places b.digits a.digits n m db sa ta.first greater)
      ]
    ] in
    without_factor (magnitude_cmp a b) x y r some (subst (λ v. Goal v (y * r)) (sym ua) (subst (Goal c) (sym ub) compared))

-- ---- signs

-- a number that is not 0 has a unit
pub some_units : (p : Parts) → canonical p ≡ p → are_digits p.digits ≡ true → 0 < length p.digits → 0 < units_of p
some_units p e digits some =
    let k = p.scale in
    let h : p.scale ≤ 4 * k = omega arith in
    let t = is_tight p e in
    let place = has_places p e digits some k h in
    let at : p.weight +ℤ pos (k + 1) ≡ pos (suc place.0) = place.1 in
    let many = shown_places p.weight p.scale k p.digits (suc place.0) h at digits t.all t.end in
    not_none (units_of p) (10 ^ (4 * k - p.scale)) (counted p.digits (suc place.0))
    (units_counted p.weight p.scale k p.digits (suc place.0) h at many t.all)
    (some_counted p.digits (suc place.0) some many t.end)
  where
    not_none : (u r c : ℕ) → u * r ≡ c → 0 < c → 0 < u
    not_none zero r c e some = absurd (omega (arith, e, some))
    not_none (suc u) r c e some = omega arith

then_same : (r : Ordering) (A B C : Type 0) → MatchOrdering r A B C → MatchOrdering (ordering_then r Equal) A B C
then_same Less A B C m = m
then_same Equal A B C m = m
then_same Greater A B C m = m

positive_units : (o : Ordering) (x y : ℕ) → MatchOrdering o (x < y) (x ≡ y) (y < x)
    → MatchOrdering o (pos x <ℤ pos y) (pos x ≡ pos y) (pos y <ℤ pos x)
positive_units o x y m =
    match_map o (x < y) (x ≡ y) (y < x) (pos x <ℤ pos y) (pos x ≡ pos y) (pos y <ℤ pos x)
    (λ h. omega (arith, ints, h)) (λ h. ap pos h) (λ h. omega (arith, ints, h)) m

negative_units : (o : Ordering) (x y : ℕ) → MatchOrdering o (y < x) (y ≡ x) (x < y)
    → MatchOrdering o (signed true x <ℤ signed true y) (signed true x ≡ signed true y) (signed true y <ℤ signed true x)
negative_units o x y m =
    match_map o (y < x) (y ≡ x) (x < y) (signed true x <ℤ signed true y) (signed true x ≡ signed true y)
    (signed true y <ℤ signed true x)
    (λ h. omega (arith, ints, h)) (λ h. ap (signed true) (sym h)) (λ h. omega (arith, ints, h)) m

below_zero : (x y : ℕ) → 0 < x → signed true x <ℤ pos y
below_zero x y h = omega (arith, ints, h)

no_negative_zero : (weight : ℤ) (scale : ℕ) → canonical (parts true weight scale []) ≡ parts true weight scale [] → ⊥
no_negative_zero weight scale e =
    let no : true ≡ false = (zero_is (parts true weight scale []) e refl).0 in
    let never : ⊥ = cc in
    never

-- how a number compares with another
abbrev Ranked : Parts → Parts → Type 0
Ranked a b = number_cmp a b ≡ int_cmp (signed_units a b.scale) (signed_units b a.scale)

ranked : (na nb : Bool) (wa wb : ℤ) (sa sb : ℕ) (da db : List ℕ) → canonical (parts na wa sa da) ≡ parts na wa sa da
    → canonical (parts nb wb sb db) ≡ parts nb wb sb db → are_digits da ≡ true → are_digits db ≡ true
    → Ranked (parts na wa sa da) (parts nb wb sb db)
ranked true nb wa wb sa sb [] db ea eb ha hb = absurd (no_negative_zero wa sa ea)
ranked na true wa wb sa sb da [] ea eb ha hb = absurd (no_negative_zero wb sb eb)
ranked true true wa wb sa sb (x ∷ xs) (y ∷ ys) ea eb ha hb =
    let a = parts true wa sa (x ∷ xs) in
    let b = parts true wb sb (y ∷ ys) in
    let ua = units_of a * 10 ^ sb in
    let ub = units_of b * 10 ^ sa in
    let turned = magnitudes b a eb ea hb ha (omega arith) (omega arith) in
    int_cmp_is (signed true ua) (signed true ub) (number_cmp a b)
    (then_same (magnitude_cmp b a) (signed true ua <ℤ signed true ub) (signed true ua ≡ signed true ub)
    (signed true ub <ℤ signed true ua) (negative_units (magnitude_cmp b a) ua ub turned))
ranked true false wa wb sa sb (x ∷ xs) [] ea eb ha hb =
    let a = parts true wa sa (x ∷ xs) in
    let b = parts false wb sb [] in
    let some : 0 < units_of a * 10 ^ sb =
    mul-pos (some_units a ea ha (omega arith)) (one-le-pow sb 10 (omega arith)) in
    int_cmp_is (signed true (units_of a * 10 ^ sb)) (pos (units_of b * 10 ^ sa)) Less
    (below_zero (units_of a * 10 ^ sb) (units_of b * 10 ^ sa) some)
ranked true false wa wb sa sb (x ∷ xs) (y ∷ ys) ea eb ha hb =
    let a = parts true wa sa (x ∷ xs) in
    let b = parts false wb sb (y ∷ ys) in
    let some : 0 < units_of a * 10 ^ sb =
    mul-pos (some_units a ea ha (omega arith)) (one-le-pow sb 10 (omega arith)) in
    int_cmp_is (signed true (units_of a * 10 ^ sb)) (pos (units_of b * 10 ^ sa)) Less
    (below_zero (units_of a * 10 ^ sb) (units_of b * 10 ^ sa) some)
ranked false true wa wb sa sb [] (y ∷ ys) ea eb ha hb =
    let a = parts false wa sa [] in
    let b = parts true wb sb (y ∷ ys) in
    let some : 0 < units_of b * 10 ^ sa =
    mul-pos (some_units b eb hb (omega arith)) (one-le-pow sa 10 (omega arith)) in
    int_cmp_is (pos (units_of a * 10 ^ sb)) (signed true (units_of b * 10 ^ sa)) Greater
    (below_zero (units_of b * 10 ^ sa) (units_of a * 10 ^ sb) some)
ranked false true wa wb sa sb (x ∷ xs) (y ∷ ys) ea eb ha hb =
    let a = parts false wa sa (x ∷ xs) in
    let b = parts true wb sb (y ∷ ys) in
    let some : 0 < units_of b * 10 ^ sa =
    mul-pos (some_units b eb hb (omega arith)) (one-le-pow sa 10 (omega arith)) in
    int_cmp_is (pos (units_of a * 10 ^ sb)) (signed true (units_of b * 10 ^ sa)) Greater
    (below_zero (units_of b * 10 ^ sa) (units_of a * 10 ^ sb) some)
ranked false false wa wb sa sb [] [] ea eb ha hb =
    let weight : wa ≡ wb =
    (zero_is (parts false wa sa []) ea refl).1 ∙ sym (zero_is (parts false wb sb []) eb refl).1 in
    let equal : Equal ≡ int_cmp wa wb = int_cmp_is wa wb Equal weight in
    let none : 0 * 10 ^ sb ≡ 0 * 10 ^ sa = omega arith in
    subst (λ o. ordering_then o Equal ≡ int_cmp (pos (0 * 10 ^ sb)) (pos (0 * 10 ^ sa))) equal
    (int_cmp_is (pos (0 * 10 ^ sb)) (pos (0 * 10 ^ sa)) Equal (ap pos none))
ranked false false wa wb sa sb [] (y ∷ ys) ea eb ha hb =
    let b = parts false wb sb (y ∷ ys) in
    let some : 0 < units_of b * 10 ^ sa =
    mul-pos (some_units b eb hb (omega arith)) (one-le-pow sa 10 (omega arith)) in
    int_cmp_is (pos (0 * 10 ^ sb)) (pos (units_of b * 10 ^ sa)) Less (omega (arith, ints, some))
ranked false false wa wb sa sb (x ∷ xs) [] ea eb ha hb =
    let a = parts false wa sa (x ∷ xs) in
    let some : 0 < units_of a * 10 ^ sb =
    mul-pos (some_units a ea ha (omega arith)) (one-le-pow sb 10 (omega arith)) in
    int_cmp_is (pos (units_of a * 10 ^ sb)) (pos (0 * 10 ^ sa)) Greater (omega (arith, ints, some))
ranked false false wa wb sa sb (x ∷ xs) (y ∷ ys) ea eb ha hb =
    let a = parts false wa sa (x ∷ xs) in
    let b = parts false wb sb (y ∷ ys) in
    let ua = units_of a * 10 ^ sb in
    let ub = units_of b * 10 ^ sa in
    int_cmp_is (pos ua) (pos ub) (magnitude_cmp a b)
    (positive_units (magnitude_cmp a b) ua ub (magnitudes a b ea eb ha hb (omega arith) (omega arith)))

-- numbers compare as the integers that they are in units of a common scale
pub ordered : (a b : Parts) → canonical a ≡ a → canonical b ≡ b → are_digits a.digits ≡ true
    → are_digits b.digits ≡ true → Ranked a b
ordered a b ea eb ha hb =
    ranked a.negative b.negative a.weight b.weight a.scale b.scale a.digits b.digits ea eb ha hb

-- ---- a number is known by its sign, its scale and its units

same_magnitude : (a b : Parts) → magnitude_cmp a b ≡ Equal → (a.weight ≡ b.weight) × (a.digits ≡ b.digits)
same_magnitude a b e =
    both (int_cmp a.weight b.weight) (slice_cmp nat_cmp a.digits b.digits) a b refl refl e
  where
    both : (o r : Ordering) (a b : Parts) → int_cmp a.weight b.weight ≡ o → slice_cmp nat_cmp a.digits b.digits ≡ r
        → ordering_then o r ≡ Equal → (a.weight ≡ b.weight) × (a.digits ≡ b.digits)
    both Less r a b h k e = let no : ⊥ = cc in absurd no
    both Greater r a b h k e = let no : ⊥ = cc in absurd no
    both Equal Less a b h k e = let no : ⊥ = cc in absurd no
    both Equal Greater a b h k e = let no : ⊥ = cc in absurd no
    both Equal Equal a b h k e = (exact_signed a.weight b.weight h, exact_bytes a.digits b.digits k)

equal_compare : (o : Ordering) (x y : ℕ) → MatchOrdering o (x < y) (x ≡ y) (y < x) → x ≡ y → o ≡ Equal
equal_compare Less x y m e = absurd (omega (arith, m, e))
equal_compare Equal x y m e = refl
equal_compare Greater x y m e = absurd (omega (arith, m, e))

not_zero_units : (p : Parts) → canonical p ≡ p → are_digits p.digits ≡ true → units_of p ≡ 0 → p.digits ≡ []
not_zero_units p e h none = elim (none_or_some p.digits) [
  | inl empty ↦ empty
  | inr some ↦ absurd (omega (arith, some_units p e h some, none))
]

same_parts_of : (a b : Parts) → a.negative ≡ b.negative → a.weight ≡ b.weight → a.scale ≡ b.scale
    → a.digits ≡ b.digits → a ≡ b
same_parts_of a b n w s d =
    ap (λ x. parts x a.weight a.scale a.digits) n ∙ ap (λ x. parts b.negative x a.scale a.digits) w
    ∙ ap (λ x. parts b.negative b.weight x a.digits) s ∙ ap (parts b.negative b.weight b.scale) d

pub known_by_units : (a b : Parts) → canonical a ≡ a → canonical b ≡ b → are_digits a.digits ≡ true
    → are_digits b.digits ≡ true → a.negative ≡ b.negative → a.scale ≡ b.scale → units_of a ≡ units_of b → a ≡ b
known_by_units a b ea eb ha hb negative scale units = elim (none_or_some a.digits) [
  | inl none ↦
      let nothing : units_of a ≡ 0 = ap (λ ds. units_of (parts a.negative a.weight a.scale ds)) none in
      let empty : b.digits ≡ [] = not_zero_units b eb hb (sym units ∙ nothing) in
      same_parts_of a b negative ((zero_is a ea none).1 ∙ sym (zero_is b eb empty).1) scale (none ∙ sym empty)
  | inr some ↦ elim (none_or_some b.digits) [
    | inl empty ↦
        let nothing : units_of b ≡ 0 = ap (λ ds. units_of (parts b.negative b.weight b.scale ds)) empty in
        absurd (omega (arith, some_units a ea ha some, units, nothing))
    | inr other ↦
        let same : units_of a * 10 ^ b.scale ≡ units_of b * 10 ^ a.scale =
        ap (λ u. u * 10 ^ b.scale) units ∙ ap (λ s. units_of b * 10 ^ s) (sym scale) in
        let equal : magnitude_cmp a b ≡ Equal =
        equal_compare (magnitude_cmp a b) (units_of a * 10 ^ b.scale) (units_of b * 10 ^ a.scale)
        (magnitudes a b ea eb ha hb some other) same in
        let both = same_magnitude a b equal in
        same_parts_of a b negative both.0 scale both.1
  ]
]
