-- Lemmas on the number that parts stand for: it stands for itself.
use Rattle.std.specs.Prelude.{◌≡◌, ◌≢◌, ℕ, suc, ◌+◌, ◌*◌, ◌/◌, ◌^◌, ◌<◌, ◌≤◌, ◌==◌, ◌&&◌, nat_lt, nat_le, ℤ, pos}
use Rattle.std.specs.Prelude.{negsuc, ◌-ℤ◌, ◌≤ℤ◌, List, [], ◌∷◌, length, Bool, true, false, not, refl, FitsSigned}
use Rattle.std.proofs.Common.{sym, ◌∙◌, ap, subst, arith, cond, drop, inl, inr}
use Rattle.std.proofs.Math.Nat.{div-mul-le_self, mul-div_cancel, one-le-pow}
use Rattle.std.proofs.lemmas.Bool.{and_parts, eq-eqb, ltb-true, lt-ltb, le-leb, and_from}
use Rattle.std.proofs.lemmas.Bool.Decides.{nat_tests, leb_tells, eqb_tells, Decides-int_eq}
use Rattle.std.specs.Bool.{beq}
use Rattle.std.specs.Cmp.{booleans_Decides}
use Rattle.std.specs.Cmp.Lexicographic.{pointwise, bytes_decides}
use Rattle.std.specs.Int.{w16}
use Rattle.std.specs.List.{prefix_len}
use Rattle.std.specs.Ordering.{int_eq}
use Rattle.std.proofs.lemmas.Int.{ints}
use Rattle.pg_base.proofs.FormatLaws.{fits}
use Rattle.pg_base.specs.Numbers.{fits_signed}
use Rattle.pg_numbers.specs.Numeric.{Parts, leading_zeros, is_number, max_digits, same_parts}
use Rattle.pg_numbers.specs.Numeric.{are_digits, base, before, hidden, shown, without_decimals, without_trailing}
use Rattle.pg_numbers.specs.Numeric.{first_is_not_zero, from_digits, from_first, canonical, parts, max_scale}
use Rattle.pg_numbers.proofs.Digits.{without_all}

-- a list that has an item
abbrev pub is_not_empty : List ℕ → Bool
is_not_empty [] = false
is_not_empty (x ∷ xs) = true

-- ---- decimals that the scale does not show

-- the weight of the next digit hides four decimals more, where that of this one hides any
next_hidden : (weight : ℤ) (scale : ℕ) → 1 ≤ hidden weight scale → 4 ≤ hidden (weight -ℤ pos 1) scale
next_hidden (pos weight) scale h = absurd (omega (arith, h))
next_hidden (negsuc weight) scale h = omega (arith, h)

-- where all the decimals of a digit are hidden, nothing is left from it on
pub all_hidden : (weight : ℤ) (scale : ℕ) (digits : List ℕ) → are_digits digits ≡ true → 4 ≤ hidden weight scale
    → without_trailing (shown weight scale digits) ≡ []
all_hidden weight scale [] h k = refl
all_hidden weight scale (d ∷ ds) h k =
    let both = and_parts _ _ h in
    let none : without_decimals (hidden weight scale) d ≡ 0 =
    without_all (hidden weight scale) d k (ltb-true d base both.0) in
    let rest : without_trailing (shown (weight -ℤ pos 1) scale ds) ≡ [] =
    all_hidden (weight -ℤ pos 1) scale ds both.1 (next_hidden weight scale (omega (arith, k))) in
    rw (none, rest) refl

-- so where something is left, the first digit shows a decimal
pub first_shows : (weight : ℤ) (scale : ℕ) (digits : List ℕ) → are_digits digits ≡ true
    → is_not_empty (without_trailing (shown weight scale digits)) ≡ true → hidden weight scale < 4
first_shows weight scale digits h k = elim (leb_tells 4 (hidden weight scale)) [
  | inl none ↦
      let nothing = all_hidden weight scale digits h none.1 in
      let no : ⊥ = cc (ap is_not_empty nothing) in
      absurd no
  | inr some ↦ some.1
]

-- decimals are left out once
pub without_twice : (count digit : ℕ) → without_decimals count (without_decimals count digit)
    ≡ without_decimals count digit
without_twice count digit =
    let some : 0 < 10 ^ count = one-le-pow count 10 (omega arith) in
    ap (λ q. q * 10 ^ count) (mul-div_cancel (digit / 10 ^ count) some)

-- what is said of no digits and of one that is not 0 is said of a last digit
last_or_none : (t : Bool) (x : ℕ) (P : List ℕ → Type 0) → P [] → (t ≡ false → P (x ∷ [])) → P (cond t [] (x ∷ []))
last_or_none true x P none some = none
last_or_none false x P none some = some refl

shown_before : (weight : ℤ) (scale x : ℕ) (ds : List ℕ) → without_decimals (hidden weight scale) x ≡ x
    → shown (weight -ℤ pos 1) scale ds ≡ ds → shown weight scale (before x ds) ≡ before x ds
shown_before weight scale x [] h k =
    last_or_none (x == 0) x (λ ys. shown weight scale ys ≡ ys) refl (λ _. ap (λ y. y ∷ []) h)
shown_before weight scale x (d ∷ ds) h k = rw h (ap (λ ys. x ∷ ys) k)

-- what is shown shows all its decimals
pub shown_twice : (weight : ℤ) (scale : ℕ) (digits : List ℕ)
    → shown weight scale (without_trailing (shown weight scale digits)) ≡ without_trailing (shown weight scale digits)
shown_twice weight scale [] = refl
shown_twice weight scale (d ∷ ds) =
    shown_before weight scale (without_decimals (hidden weight scale) d) (without_trailing (shown
    (weight -ℤ pos 1) scale ds))
    (without_twice (hidden weight scale) d) (shown_twice (weight -ℤ pos 1) scale ds)

-- ---- zeros
trailing_before : (x : ℕ) (ds : List ℕ) → without_trailing ds ≡ ds → without_trailing (before x ds) ≡ before x ds
trailing_before x [] h = last_or_none (x == 0) x (λ ys. without_trailing ys ≡ ys) refl (λ other. rw other refl)
trailing_before x (d ∷ ds) h = ap (before x) h

-- zeros are left out once
pub trailing_twice : (digits : List ℕ) → without_trailing (without_trailing digits) ≡ without_trailing digits
trailing_twice [] = refl
trailing_twice (d ∷ ds) = trailing_before d (without_trailing ds) (trailing_twice ds)

-- ---- the first digit

before_other : (x : ℕ) (ds : List ℕ) → x ≢ 0 → first_is_not_zero (before x ds) ≡ true
before_other x [] h =
    last_or_none (x == 0) x (λ ys. first_is_not_zero ys ≡ true) refl (λ other. rw other refl)
before_other x (d ∷ ds) h = grind (arith, nat_tests, h)

before_none : (x : ℕ) (ds : List ℕ) → ds ≡ [] → first_is_not_zero (before x ds) ≡ true
before_none x [] h = last_or_none (x == 0) x (λ ys. first_is_not_zero ys ≡ true) refl (λ other. rw other refl)
before_none x (d ∷ ds) h = let no : ⊥ = cc in absurd no

-- where the first digit is not 0, the first that is left is not 0
pub first_left : (weight : ℤ) (scale d : ℕ) (ds : List ℕ) → are_digits ds ≡ true → d ≢ 0
    → first_is_not_zero (without_trailing (shown weight scale (d ∷ ds))) ≡ true
first_left weight scale d ds h other = elim (leb_tells 1 (hidden weight scale)) [
  | inl some ↦
      before_none (without_decimals (hidden weight scale) d) (without_trailing (shown (weight -ℤ pos 1) scale ds))
      (all_hidden (weight -ℤ pos 1) scale ds h (next_hidden weight scale some.1))
  | inr none ↦
      let all : hidden weight scale ≡ 0 = omega (arith, none.1) in
      let same : without_decimals (hidden weight scale) d ≡ d = rw all (omega arith) in
      before_other (without_decimals (hidden weight scale) d) (without_trailing (shown (weight -ℤ pos 1) scale ds))
      (λ e. other (sym same ∙ e))
]

pub first_of_left : (weight : ℤ) (scale : ℕ) (digits : List ℕ) → are_digits digits ≡ true
    → first_is_not_zero digits ≡ true → first_is_not_zero (without_trailing (shown weight scale digits)) ≡ true
first_of_left weight scale [] h k = refl
first_of_left weight scale (d ∷ ds) h k =
    first_left weight scale d ds (and_parts _ _ h).1 (grind (arith, nat_tests, k))

-- the number of digits of which the first is not 0
pub from_first_other : (negative : Bool) (weight : ℤ) (scale : ℕ) (digits : List ℕ) → first_is_not_zero digits ≡ true
    → from_first negative weight scale digits
    ≡ from_digits negative weight scale (without_trailing (shown weight scale digits))
from_first_other negative weight scale [] h = refl
from_first_other negative weight scale (d ∷ ds) h =
    let other : (d == 0) ≡ false = grind (arith, nat_tests) in
    rw other refl

pub from_some : (negative : Bool) (weight : ℤ) (scale : ℕ) (digits : List ℕ) → is_not_empty digits ≡ true
    → from_digits negative weight scale digits ≡ parts negative weight scale digits
from_some negative weight scale [] h = let no : ⊥ = cc in absurd no
from_some negative weight scale (d ∷ ds) h = refl

-- what is left of digits is the digits of a number that stands for itself
pub canonical_left : (negative : Bool) (weight : ℤ) (scale : ℕ) (digits : List ℕ) → are_digits digits ≡ true
    → first_is_not_zero digits ≡ true
    → let left = without_trailing (shown weight scale digits) in is_not_empty left ≡ true
    → canonical (parts negative weight scale left) ≡ parts negative weight scale left
canonical_left negative weight scale digits h k some =
    let left = without_trailing (shown weight scale digits) in
    let same : without_trailing (shown weight scale left) ≡ left =
    ap without_trailing (shown_twice weight scale digits) ∙ trailing_twice (shown weight scale digits) in
    from_first_other negative weight scale left (first_of_left weight scale digits h k)
    ∙ ap (from_digits negative weight scale) same ∙ from_some negative weight scale left some

-- parts are the same as themselves
pub same_parts_same : (p : Parts) → same_parts p p ≡ true
same_parts_same p =
    and_from (beq p.negative p.negative && int_eq p.weight p.weight && p.scale == p.scale)
    (pointwise ◌==◌ p.digits p.digits)
    (and_from (beq p.negative p.negative && int_eq p.weight p.weight) (p.scale == p.scale)
    (and_from (beq p.negative p.negative) (int_eq p.weight p.weight) ((booleans_Decides p.negative p.negative).1 refl)
    ((Decides-int_eq p.weight p.weight).1 refl))
    (eq-eqb p.scale p.scale refl)) ((bytes_decides p.digits p.digits).1 refl)

digits_before : (x : ℕ) (ds : List ℕ) → x < base → are_digits ds ≡ true → are_digits (before x ds) ≡ true
digits_before x [] h k =
    last_or_none (x == 0) x (λ ys. are_digits ys
    ≡ true) refl (λ _. and_from (nat_lt x base) true (lt-ltb x base h) refl)
digits_before x (d ∷ ds) h k = and_from (nat_lt x base) (are_digits (d ∷ ds)) (lt-ltb x base h) k

pub digits_left : (weight : ℤ) (scale : ℕ) (digits : List ℕ) → are_digits digits ≡ true
    → are_digits (without_trailing (shown weight scale digits)) ≡ true
digits_left weight scale [] h = refl
digits_left weight scale (d ∷ ds) h =
    let both = and_parts _ _ h in
    let less : without_decimals (hidden weight scale) d ≤ d = div-mul-le_self d (10 ^ hidden weight scale) in
    digits_before (without_decimals (hidden weight scale) d) (without_trailing (shown (weight -ℤ pos 1) scale ds))
    (omega (arith, less, ltb-true d base both.0)) (digits_left (weight -ℤ pos 1) scale ds both.1)

length_before : (x : ℕ) (ds : List ℕ) → length (before x ds) ≤ suc (length ds)
length_before x [] = last_or_none (x == 0) x (λ ys. length ys ≤ 1) (omega arith) (λ _. omega arith)
length_before x (d ∷ ds) = omega arith

pub length_left : (weight : ℤ) (scale : ℕ) (digits : List ℕ)
    → length (without_trailing (shown weight scale digits)) ≤ length digits
length_left weight scale [] = omega arith
length_left weight scale (d ∷ ds) = omega (
  arith,
  length_left (weight -ℤ pos 1) scale ds,
  length_before (without_decimals (hidden weight scale) d) (without_trailing (shown (weight -ℤ pos 1) scale ds)),
)

-- the weight of a digit that shows a decimal is in its range
pub weight_fits : (weight : ℤ) (scale : ℕ) → hidden weight scale < 4 → scale ≤ max_scale → weight ≤ℤ pos 32767
    → FitsSigned w16 weight
weight_fits (pos weight) scale h k high = record { sfits = omega (arith, ints) }
weight_fits (negsuc weight) scale h k high = record { sfits = omega (arith, h, k) }

-- so the parts are those of a number
pub number_left : (negative : Bool) (weight : ℤ) (scale : ℕ) (digits : List ℕ) → are_digits digits ≡ true
    → first_is_not_zero digits ≡ true → length digits ≤ max_digits → scale ≤ max_scale → weight ≤ℤ pos 32767
    → let left = without_trailing (shown weight scale digits) in is_not_empty left ≡ true
    → is_number (parts negative weight scale left) ≡ true
number_left negative weight scale digits h k many high top some =
    let left = without_trailing (shown weight scale digits) in
    let p = parts negative weight scale left in
    let same : same_parts (canonical p) p ≡ true =
    subst (λ q. same_parts q p ≡ true) (sym (canonical_left negative weight scale digits h k some))
    (same_parts_same p) in
    let fit : fits_signed w16 weight ≡ true =
    fits w16 weight (weight_fits weight scale (first_shows weight scale digits h some) high top) in
    and_from (same_parts (canonical p) p && fits_signed w16 weight && nat_le scale max_scale && are_digits left)
    (nat_le (length left) max_digits)
    (and_from (same_parts (canonical p) p && fits_signed w16 weight && nat_le scale max_scale) (are_digits left)
    (and_from (same_parts (canonical p) p && fits_signed w16 weight) (nat_le scale max_scale)
    (and_from (same_parts (canonical p) p) (fits_signed w16 weight) same fit)
    (le-leb scale max_scale high)) (digits_left weight scale digits h))
    (le-leb (length left) max_digits (omega (arith, many, length_left weight scale digits)))

pub some_of_length : (digits : List ℕ) → 0 < length digits → is_not_empty digits ≡ true
some_of_length [] h = absurd (omega (arith, h))
some_of_length (d ∷ ds) h = refl

-- ---- leading zeros
zeros_more : (d : ℕ) (ds : List ℕ) → (d == 0) ≡ true → leading_zeros (d ∷ ds) ≡ suc (leading_zeros ds)
zeros_more d ds h =
    let more : 1 + prefix_len (λ x. x == 0) ds ≡ suc (prefix_len (λ x. x == 0) ds) = omega arith in
    rw (h, more) refl

zeros_end : (d : ℕ) (ds : List ℕ) → (d == 0) ≡ false → leading_zeros (d ∷ ds) ≡ 0
zeros_end d ds h = rw h refl

pub zeros_within : (digits : List ℕ) → leading_zeros digits ≤ length digits
zeros_within [] = omega arith
zeros_within (d ∷ ds) = elim (eqb_tells d 0) [
  | inl none ↦ omega (arith, zeros_more d ds none.0, zeros_within ds)
  | inr other ↦ omega (arith, zeros_end d ds other.0)
]

pub digits_after_zeros : (digits : List ℕ) → are_digits digits ≡ true
    → are_digits (drop (leading_zeros digits) digits) ≡ true
digits_after_zeros [] h = refl
digits_after_zeros (d ∷ ds) h = elim (eqb_tells d 0) [
  | inl none ↦
      subst (λ n. are_digits (drop n (d ∷ ds))
      ≡ true) (sym (zeros_more d ds none.0)) (digits_after_zeros ds (and_parts _ _ h).1)
  | inr other ↦ subst (λ n. are_digits (drop n (d ∷ ds)) ≡ true) (sym (zeros_end d ds other.0)) h
]

pub first_after_zeros : (digits : List ℕ) → first_is_not_zero (drop (leading_zeros digits) digits) ≡ true
first_after_zeros [] = refl
first_after_zeros (d ∷ ds) = elim (eqb_tells d 0) [
  | inl none ↦
      subst (λ n. first_is_not_zero (drop n (d ∷ ds)) ≡ true) (sym (zeros_more d ds none.0)) (first_after_zeros ds)
  | inr other ↦
      subst (λ n. first_is_not_zero (drop n (d ∷ ds)) ≡ true) (sym (zeros_end d ds other.0)) (ap not other.0)
]

-- the number of the digits without the first so many
abbrev pub without_first : Bool → ℤ → ℕ → List ℕ → ℕ → Parts
without_first negative weight scale digits count =
    from_digits negative (weight -ℤ pos count) scale (without_trailing (shown (weight -ℤ pos count) scale
    (drop count digits)))

-- the number of digits from the first on that is not 0
pub from_first_after_zeros : (negative : Bool) (weight : ℤ) (scale : ℕ) (digits : List ℕ)
    → without_first negative weight scale digits (leading_zeros digits) ≡ from_first negative weight scale digits
from_first_after_zeros negative weight scale [] = refl
from_first_after_zeros negative weight scale (d ∷ ds) = elim (eqb_tells d 0) [
  | inl none ↦
      let same : weight -ℤ pos (suc (leading_zeros ds)) ≡ weight -ℤ pos 1 -ℤ pos (leading_zeros ds) =
      omega (arith, ints) in
      ap (without_first negative weight scale (d ∷ ds)) (zeros_more d ds none.0)
      ∙ ap (λ z. from_digits negative z scale (without_trailing (shown z scale (drop (leading_zeros ds) ds)))) same
      ∙ from_first_after_zeros negative (weight -ℤ pos 1) scale ds ∙ sym (rw none.0 refl)
  | inr other ↦
      let same : weight -ℤ pos 0 ≡ weight = omega (arith, ints) in
      ap (without_first negative weight scale (d ∷ ds)) (zeros_end d ds other.0)
      ∙ ap (λ z. from_digits negative z scale (without_trailing (shown z scale (d ∷ ds)))) same ∙ sym (rw other.0 refl)
]
