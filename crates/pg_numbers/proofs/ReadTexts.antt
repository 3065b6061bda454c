-- Lemmas on the digits that are read of texts: they count for what the texts spell.
use Rattle.std.specs.Prelude.{◌≡◌, ℕ, zero, suc, ◌+◌, ◌-◌, ◌*◌, ◌/◌, ◌%◌, ◌^◌, ◌<◌, ◌≤◌, ◌==◌, ℤ, pos, negsuc, ◌-ℤ◌, ◌+ℤ◌}
use Rattle.std.specs.Prelude.{List, [], ◌∷◌, ◌++◌, drop, length, take, true, refl, nat_lt}
use Rattle.std.specs.Char.{digit_value, is_ascii_digit}
use Rattle.std.specs.List.{list_all, prefix_len}
use Rattle.std.specs.Str.Parse.{digits_value, digits_value_after}
use Rattle.std.proofs.Common.{sym, ◌∙◌, ap, arith, get_or, inl, inr, append_assoc, length-append}
use native.Mathlib.Nat.{eq_of_mul-eq-mul_right}
use Rattle.std.proofs.Math.Nat.{mul-div_cancel, one-le-pow}
use Rattle.std.proofs.lemmas.Bool.{and_parts, leb-true, lt-ltb, and_from}
use Rattle.std.proofs.lemmas.Bool.Decides.{eqb_tells}
use Rattle.std.proofs.lemmas.Int.{ints}
use Rattle.std.proofs.lemmas.List.{length-drop, length-take-le, take-append-drop}
use Rattle.std.proofs.lemmas.List.Folds.{list_all-append}
use Rattle.std.proofs.lemmas.Nat.{pow-add}
use Rattle.std.proofs.lemmas.Str.{digit_value_digit}
use Rattle.pg_numbers.specs.Numeric.{are_digits, base, hidden, shown, units, without_decimals}
use Rattle.pg_numbers.specs.NumericTexts.{base_digits, front_group, grouped, without_leading_zeros}
use Rattle.pg_numbers.proofs.NumberTexts.{after_append}
use Rattle.pg_numbers.proofs.Places.{counted, units_counted}

-- what digits write after a number
pub after_value : (n : ℕ) (ds : List ℕ)
    → digits_value_after 10 n ds ≡ n * 10 ^ length ds + digits_value 10 ds
after_value n [] = omega arith
after_value n (c ∷ cs) =
    let power : 10 ^ suc (length cs) ≡ 10 * 10 ^ length cs =
    ap (λ k. 10 ^ k) (one_more (length cs)) ∙ pow-add 10 1 (length cs) in
    after_value (n * 10 + digit_value c) cs
    ∙ next n (digit_value c) (10 ^ length cs) (10 ^ suc (length cs)) (digits_value 10 cs) power
    ∙ ap (λ v. n * 10 ^ suc (length cs) + v) (sym (after_value (0 * 10 + digit_value c) cs))
  where
    one_more : (k : ℕ) → suc k ≡ 1 + k
    one_more k = omega arith

    next : (n d p q v : ℕ) → q ≡ 10 * p → (n * 10 + d) * p + v ≡ n * q + ((0 * 10 + d) * p + v)
    next n d p q v e = rw e (omega arith)

-- the zeros at the front write nothing
pub zeros_value : (ds : List ℕ) → digits_value 10 (without_leading_zeros ds) ≡ digits_value 10 ds
zeros_value [] = refl
zeros_value (c ∷ cs) = elim (eqb_tells c 48) [
  | inl none ↦
      let more : prefix_len (λ byte. byte == 48) (c ∷ cs) ≡ suc (prefix_len (λ byte. byte == 48) cs) =
      rw none.0 (omega arith) in
      let nothing : 0 * 10 + digit_value c ≡ 0 = ap (λ x. 0 * 10 + digit_value x) none.1 in
      ap (λ n. digits_value 10 (drop n (c ∷ cs))) more ∙ zeros_value cs
      ∙ ap (λ n. digits_value_after 10 n cs) (sym nothing)
  | inr other ↦
      let none : prefix_len (λ byte. byte == 48) (c ∷ cs) ≡ 0 = rw other.0 refl in
      ap (λ n. digits_value 10 (drop n (c ∷ cs))) none
]

-- ---- groups of four

pub grouped_length : (ds : List ℕ) → (length ds ≤ 4 * length (grouped ds)) × (4 * length (grouped ds) < length ds + 4)
grouped_length [] = (omega arith, omega arith)
grouped_length (a ∷ []) = (omega arith, omega arith)
grouped_length (a ∷ b ∷ []) = (omega arith, omega arith)
grouped_length (a ∷ b ∷ c ∷ []) = (omega arith, omega arith)
grouped_length (a ∷ b ∷ c ∷ d ∷ ds) =
    let rest = grouped_length ds in
    (omega (arith, rest.0), omega (arith, rest.1))

pub counted_append : (xs ys : List ℕ)
    → counted (xs ++ ys) (length xs + length ys)
    ≡ counted xs (length xs) * 10 ^ (4 * length ys) + counted ys (length ys)
counted_append [] ys =
    let none : 0 + length ys ≡ length ys = omega arith in
    ap (counted ys) none ∙ omega arith
counted_append (x ∷ xs) ys =
    let next : suc (length xs) + length ys ≡ suc (length xs + length ys) = omega arith in
    let sum : 4 * (length xs + length ys) ≡ 4 * length xs + 4 * length ys = omega arith in
    let power : 10 ^ (4 * (length xs + length ys)) ≡ 10 ^ (4 * length xs) * 10 ^ (4 * length ys) =
    ap (λ k. 10 ^ k) sum ∙ pow-add 10 (4 * length xs) (4 * length ys) in
    ap (counted (x ∷ (xs ++ ys))) next
    ∙ step x (10 ^ (4 * (length xs + length ys))) (10 ^ (4 * length xs)) (10 ^ (4 * length ys))
    (counted (xs ++ ys) (length xs + length ys)) (counted xs (length xs)) (counted ys (length ys)) power
    (counted_append xs ys)
  where
    step : (x pq p q c a b : ℕ) → pq ≡ p * q → c ≡ a * q + b → x * pq + c ≡ (x * p + a) * q + b
    step x pq p q c a b e h = rw e (rw h (omega arith))

pub grouped_value : (ds : List ℕ)
    → counted (grouped ds) (length (grouped ds))
    ≡ digits_value 10 ds * 10 ^ (4 * length (grouped ds) - length ds)
grouped_value [] = refl
grouped_value (a ∷ []) = omega arith
grouped_value (a ∷ b ∷ []) = omega arith
grouped_value (a ∷ b ∷ c ∷ []) = omega arith
grouped_value (a ∷ b ∷ c ∷ d ∷ ds) =
    let many = length (grouped ds) in
    let group = digits_value 10 (a ∷ b ∷ c ∷ d ∷ []) in
    let left : 4 * suc many - length (a ∷ b ∷ c ∷ d ∷ ds) ≡ 4 * many - length ds = omega arith in
    let sum : length ds + (4 * many - length ds) ≡ 4 * many = omega (arith, (grouped_length ds).0) in
    let power : 10 ^ (4 * many) ≡ 10 ^ length ds * 10 ^ (4 * many - length ds) =
    ap (λ k. 10 ^ k) (sym sum) ∙ pow-add 10 (length ds) (4 * many - length ds) in
    step group (10 ^ (4 * many)) (10 ^ length ds) (10 ^ (4 * many - length ds)) (digits_value 10 ds)
    (counted (grouped ds) many) power (grouped_value ds)
    ∙ ap (λ v. v * 10 ^ (4 * many - length ds)) (sym (after_value group ds))
    ∙ ap (λ n. digits_value 10 (a ∷ b ∷ c ∷ d ∷ ds) * 10 ^ n) (sym left)
  where
    step : (g q l p v c : ℕ) → q ≡ l * p → c ≡ v * p → g * q + c ≡ (g * l + v) * p
    step g q l p v c e h = rw e (rw h (omega arith))

-- a decimal digit's value
ascii_value : (c : ℕ) → is_ascii_digit c ≡ true → digit_value c < 10
ascii_value c h =
    let both = and_parts _ _ h in
    let low : 48 ≤ c = leb-true 48 c both.0 in
    let high : c ≤ 57 = leb-true c 57 both.1 in
    omega (arith, digit_value_digit c (low, high), high)

-- and the range of its code
pub ascii_range : (c : ℕ) → is_ascii_digit c ≡ true → (48 ≤ c) × (digit_value c + 48 ≡ c) × (digit_value c < 10)
ascii_range c h =
    let both = and_parts _ _ h in
    let low : 48 ≤ c = leb-true 48 c both.0 in
    let high : c ≤ 57 = leb-true c 57 both.1 in
    (low, digit_value_digit c (low, high), ascii_value c h)

-- the first four of decimal digits
pub grouped_more : (ds : List ℕ) → 4 ≤ length ds
    → grouped ds
    ≡ digits_value 10 (get_or ds 0 0 ∷ get_or ds 1 0 ∷ get_or ds 2 0 ∷ get_or ds 3 0 ∷ []) ∷ grouped (drop 4 ds)
grouped_more [] h = absurd (omega (arith, h))
grouped_more (a ∷ []) h = absurd (omega (arith, h))
grouped_more (a ∷ b ∷ []) h = absurd (omega (arith, h))
grouped_more (a ∷ b ∷ c ∷ []) h = absurd (omega (arith, h))
grouped_more (a ∷ b ∷ c ∷ d ∷ ds) h = refl

pub grouped_three : (ds : List ℕ) → length ds ≡ 3
    → grouped ds ≡ digits_value 10 (get_or ds 0 0 ∷ get_or ds 1 0 ∷ get_or ds 2 0 ∷ 48 ∷ []) ∷ []
grouped_three [] h = absurd (omega (arith, h))
grouped_three (a ∷ []) h = absurd (omega (arith, h))
grouped_three (a ∷ b ∷ []) h = absurd (omega (arith, h))
grouped_three (a ∷ b ∷ c ∷ []) h = refl
grouped_three (a ∷ b ∷ c ∷ d ∷ ds) h = absurd (omega (arith, h))

pub grouped_two : (ds : List ℕ) → length ds ≡ 2
    → grouped ds ≡ digits_value 10 (get_or ds 0 0 ∷ get_or ds 1 0 ∷ 48 ∷ 48 ∷ []) ∷ []
grouped_two [] h = absurd (omega (arith, h))
grouped_two (a ∷ []) h = absurd (omega (arith, h))
grouped_two (a ∷ b ∷ []) h = refl
grouped_two (a ∷ b ∷ c ∷ ds) h = absurd (omega (arith, h))

pub grouped_one : (ds : List ℕ) → length ds ≡ 1
    → grouped ds ≡ digits_value 10 (get_or ds 0 0 ∷ 48 ∷ 48 ∷ 48 ∷ []) ∷ []
grouped_one [] h = absurd (omega (arith, h))
grouped_one (a ∷ []) h = refl
grouped_one (a ∷ b ∷ ds) h = absurd (omega (arith, h))

pub grouped_none : (ds : List ℕ) → length ds < 1 → grouped ds ≡ []
grouped_none [] h = refl
grouped_none (a ∷ ds) h = absurd (omega (arith, h))

pub front_three : (ds : List ℕ) → length ds ≡ 3
    → front_group ds ≡ digits_value 10 (48 ∷ get_or ds 0 0 ∷ get_or ds 1 0 ∷ get_or ds 2 0 ∷ []) ∷ []
front_three [] h = absurd (omega (arith, h))
front_three (a ∷ []) h = absurd (omega (arith, h))
front_three (a ∷ b ∷ []) h = absurd (omega (arith, h))
front_three (a ∷ b ∷ c ∷ []) h = refl
front_three (a ∷ b ∷ c ∷ d ∷ ds) h = absurd (omega (arith, h))

pub front_two : (ds : List ℕ) → length ds ≡ 2
    → front_group ds ≡ digits_value 10 (48 ∷ 48 ∷ get_or ds 0 0 ∷ get_or ds 1 0 ∷ []) ∷ []
front_two [] h = absurd (omega (arith, h))
front_two (a ∷ []) h = absurd (omega (arith, h))
front_two (a ∷ b ∷ []) h = refl
front_two (a ∷ b ∷ c ∷ ds) h = absurd (omega (arith, h))

pub front_one : (ds : List ℕ) → length ds ≡ 1
    → front_group ds ≡ digits_value 10 (48 ∷ 48 ∷ 48 ∷ get_or ds 0 0 ∷ []) ∷ []
front_one [] h = absurd (omega (arith, h))
front_one (a ∷ []) h = refl
front_one (a ∷ b ∷ ds) h = absurd (omega (arith, h))

pub front_none : (ds : List ℕ) → length ds < 1 → front_group ds ≡ []
front_none [] h = refl
front_none (a ∷ ds) h = absurd (omega (arith, h))

-- each of decimal digits is one, and so are those after them
pub decimal_at : (ds : List ℕ) (i : ℕ) → list_all is_ascii_digit ds ≡ true → i < length ds
    → is_ascii_digit (get_or ds i 0) ≡ true
decimal_at [] i h k = absurd (omega (arith, k))
decimal_at (d ∷ ds) zero h k = (and_parts _ _ h).0
decimal_at (d ∷ ds) (suc i) h k = decimal_at ds i (and_parts _ _ h).1 (omega (arith, k))

pub decimal_drop : (n : ℕ) (ds : List ℕ) → list_all is_ascii_digit ds ≡ true
    → list_all is_ascii_digit (drop n ds) ≡ true
decimal_drop zero ds h = h
decimal_drop (suc n) [] h = refl
decimal_drop (suc n) (d ∷ ds) h = decimal_drop n ds (and_parts _ _ h).1

zero_value : digit_value 48 < 10
zero_value = omega arith

four_below : (a b c d : ℕ) → digit_value a < 10 → digit_value b < 10 → digit_value c < 10 → digit_value d < 10
    → digits_value 10 (a ∷ b ∷ c ∷ d ∷ []) < base
four_below a b c d h k l m = omega (arith, h, k, l, m)

one_digit_more : (n : ℕ) (ns : List ℕ) → n < base → are_digits ns ≡ true → are_digits (n ∷ ns) ≡ true
one_digit_more n ns h k = and_from _ _ (lt-ltb n base h) k

pub grouped_digits : (ds : List ℕ) → list_all is_ascii_digit ds ≡ true → are_digits (grouped ds) ≡ true
grouped_digits [] h = refl
grouped_digits (a ∷ []) h =
    let p = and_parts _ _ h in
    one_digit_more (digits_value 10 (a ∷ 48 ∷ 48 ∷ 48 ∷ [])) [] (four_below a 48 48 48 (ascii_value a p.0)
    zero_value zero_value zero_value) refl
grouped_digits (a ∷ b ∷ []) h =
    let p = and_parts _ _ h in
    let q = and_parts _ _ p.1 in
    one_digit_more (digits_value 10 (a ∷ b ∷ 48 ∷ 48 ∷ [])) [] (four_below a b 48 48 (ascii_value a p.0)
    (ascii_value b q.0) zero_value zero_value) refl
grouped_digits (a ∷ b ∷ c ∷ []) h =
    let p = and_parts _ _ h in
    let q = and_parts _ _ p.1 in
    let r = and_parts _ _ q.1 in
    one_digit_more (digits_value 10 (a ∷ b ∷ c ∷ 48 ∷ [])) [] (four_below a b c 48 (ascii_value a p.0)
    (ascii_value b q.0) (ascii_value c r.0) zero_value) refl
grouped_digits (a ∷ b ∷ c ∷ d ∷ ds) h =
    let p = and_parts _ _ h in
    let q = and_parts _ _ p.1 in
    let r = and_parts _ _ q.1 in
    let s = and_parts _ _ r.1 in
    one_digit_more (digits_value 10 (a ∷ b ∷ c ∷ d ∷ [])) (grouped ds) (four_below a b c d (ascii_value a p.0)
    (ascii_value b q.0) (ascii_value c r.0) (ascii_value d s.0)) (grouped_digits ds s.1)

-- ---- digits of which no decimal is left out

kept : (count g q : ℕ) → g ≡ q * 10 ^ count → without_decimals count g ≡ g
kept count g q e =
    let some : 0 < 10 ^ count = one-le-pow count 10 (omega arith) in
    ap (λ x. x / 10 ^ count * 10 ^ count) e ∙ ap (λ x. x * 10 ^ count) (mul-div_cancel q some) ∙ sym e

kept_at : (weight : ℤ) (scale count g q : ℕ) → hidden weight scale ≡ count → g ≡ q * 10 ^ count
    → without_decimals (hidden weight scale) g ≡ g
kept_at weight scale count g q h e = ap (λ n. without_decimals n g) h ∙ kept count g q e

grouped_shown : (w s : ℕ) (ds : List ℕ) → s ≡ 4 * w + length ds → shown (negsuc w) s (grouped ds) ≡ grouped ds
grouped_shown w s [] e = refl
grouped_shown w s (a ∷ []) e =
    let g = digits_value 10 (a ∷ 48 ∷ 48 ∷ 48 ∷ []) in
    let value : g ≡ digit_value a * 10 ^ 3 = omega arith in
    ap (λ x. x ∷ []) (kept_at (negsuc w) s 3 g (digit_value a) (omega (arith, e)) value)
grouped_shown w s (a ∷ b ∷ []) e =
    let g = digits_value 10 (a ∷ b ∷ 48 ∷ 48 ∷ []) in
    let q = digit_value a * 10 + digit_value b in
    let value : g ≡ q * 10 ^ 2 = omega arith in
    ap (λ x. x ∷ []) (kept_at (negsuc w) s 2 g q (omega (arith, e)) value)
grouped_shown w s (a ∷ b ∷ c ∷ []) e =
    let g = digits_value 10 (a ∷ b ∷ c ∷ 48 ∷ []) in
    let q = (digit_value a * 10 + digit_value b) * 10 + digit_value c in
    let value : g ≡ q * 10 ^ 1 = omega arith in
    ap (λ x. x ∷ []) (kept_at (negsuc w) s 1 g q (omega (arith, e)) value)
grouped_shown w s (a ∷ b ∷ c ∷ d ∷ ds) e =
    let g = digits_value 10 (a ∷ b ∷ c ∷ d ∷ []) in
    let same : g ≡ g * 10 ^ 0 = omega arith in
    let next : negsuc w -ℤ pos 1 ≡ negsuc (suc w) = omega (arith, ints) in
    ap (λ x. x ∷ shown (negsuc w -ℤ pos 1) s (grouped ds)) (kept_at (negsuc w) s 0 g g (omega (arith, e)) same)
    ∙ ap (λ z. g ∷ shown z s (grouped ds)) next
    ∙ ap (λ xs. g ∷ xs) (grouped_shown (suc w) s ds (omega (arith, e)))

front_shown : (weight : ℤ) (s : ℕ) (xs ys : List ℕ) → weight +ℤ pos 1 ≡ pos (length xs)
    → shown (negsuc 0) s ys ≡ ys → shown weight s (xs ++ ys) ≡ xs ++ ys
front_shown weight s [] ys e h =
    let last : weight ≡ negsuc 0 = omega (arith, ints, e) in
    ap (λ w. shown w s ys) last ∙ h
front_shown weight s (x ∷ xs) ys e h =
    let place : weight ≡ pos (length xs) = omega (arith, ints, e) in
    let none : hidden weight s ≡ 0 = ap (λ w. hidden w s) place in
    let same : x ≡ x * 10 ^ 0 = omega arith in
    ap (λ y. y ∷ shown (weight -ℤ pos 1) s (xs ++ ys)) (kept_at weight s 0 x x none same)
    ∙ ap (λ zs. x ∷ zs) (front_shown (weight -ℤ pos 1) s xs ys (omega (arith, ints, e)) h)

-- ---- the digits before the point

front_value : (ds : List ℕ) → counted (front_group ds) (length (front_group ds)) ≡ digits_value 10 ds
front_value [] = refl
front_value (a ∷ ds) = omega arith

front_length : (ds : List ℕ) → length ds < 4
    → (length ds ≤ 4 * length (front_group ds)) × (4 * length (front_group ds) < length ds + 4)
front_length [] h = (omega arith, omega arith)
front_length (a ∷ ds) h = (omega (arith, h), omega arith)

front_digits : (ds : List ℕ) → length ds < 4 → list_all is_ascii_digit ds ≡ true → are_digits (front_group ds) ≡ true
front_digits [] h k = refl
front_digits (a ∷ []) h k =
    let p = and_parts _ _ k in
    one_digit_more (digits_value 10 (a ∷ [])) [] (omega (arith, ascii_value a p.0)) refl
front_digits (a ∷ b ∷ []) h k =
    let p = and_parts _ _ k in
    let q = and_parts _ _ p.1 in
    one_digit_more (digits_value 10 (a ∷ b ∷ [])) [] (omega (arith, ascii_value a p.0, ascii_value b q.0)) refl
front_digits (a ∷ b ∷ c ∷ []) h k =
    let p = and_parts _ _ k in
    let q = and_parts _ _ p.1 in
    let r = and_parts _ _ q.1 in
    one_digit_more (digits_value 10 (a ∷ b ∷ c ∷ []))
    [] (omega (arith, ascii_value a p.0, ascii_value b q.0, ascii_value c r.0)) refl
front_digits (a ∷ b ∷ c ∷ d ∷ ds) h k = absurd (omega (arith, h))

digits_append : (a b : List ℕ) → are_digits a ≡ true → are_digits b ≡ true → are_digits (a ++ b) ≡ true
digits_append a b h k = list_all-append (λ digit. nat_lt digit base) a b ∙ and_from _ _ h k

-- the groups of the digits before the point
abbrev pub integer_groups : List ℕ → List ℕ
integer_groups integer =
    front_group (take (length integer % 4) integer) ++ grouped (drop (length integer % 4) integer)

record HasGroups (integer : List ℕ) : Type 0 where
  first : length (take (length integer % 4) integer) ≡ length integer % 4
  others : length (drop (length integer % 4) integer) ≡ length integer - length integer % 4
  groups : 4 * length (grouped (drop (length integer % 4) integer)) ≡ length integer - length integer % 4

has_groups : (integer : List ℕ) → HasGroups integer
has_groups integer =
    let r = length integer % 4 in
    let others : length (drop r integer) ≡ length integer - r = length-drop r integer in
    let many = grouped_length (drop r integer) in
    record {
      first = length-take-le r integer (omega arith);
      others = others;
      groups = omega (arith, others, many.0, many.1);
    }

pub groups_count : (integer : List ℕ)
    → (length integer ≤ 4 * length (integer_groups integer)) × (4 * length (integer_groups integer) < length integer + 4)
groups_count integer =
    let r = length integer % 4 in
    let h = has_groups integer in
    let front = front_length (take r integer) (omega (arith, h.first)) in
    let sum = length-append (front_group (take r integer)) (grouped (drop r integer)) in
    (omega (arith, sum, h.groups, h.first, front.0), omega (arith, sum, h.groups, h.first, front.1))

groups_value : (integer : List ℕ)
    → counted (integer_groups integer) (length (integer_groups integer)) ≡ digits_value 10 integer
groups_value integer =
    let r = length integer % 4 in
    let h = has_groups integer in
    let first = take r integer in
    let others = drop r integer in
    let many = length (grouped others) in
    let power : 4 * many ≡ length others = omega (arith, h.groups, h.others) in
    let none : 4 * many - length others ≡ 0 = omega (arith, power) in
    ap (counted (integer_groups integer)) (length-append (front_group first) (grouped others))
    ∙ counted_append (front_group first) (grouped others)
    ∙ ap (λ v. v * 10 ^ (4 * many) + counted (grouped others) many) (front_value first)
    ∙ ap (λ n. digits_value 10 first * 10 ^ n + counted (grouped others) many) power
    ∙ ap (λ v. digits_value 10 first * 10 ^ length others + v) (grouped_value others
    ∙ ap (λ n. digits_value 10 others * 10 ^ n) none ∙ omega arith)
    ∙ sym (after_value (digits_value 10 first) others) ∙ sym (after_append 0 first others)
    ∙ ap (digits_value 10) (take-append-drop r integer)

-- ---- the number

pub base_are_digits : (integer decimals : List ℕ) → list_all is_ascii_digit integer ≡ true
    → list_all is_ascii_digit decimals ≡ true → are_digits (base_digits integer decimals) ≡ true
base_are_digits integer decimals h k =
    let r = length integer % 4 in
    let has = has_groups integer in
    let split : list_all is_ascii_digit (take r integer ++ drop r integer) ≡ true =
    ap (list_all is_ascii_digit) (take-append-drop r integer) ∙ h in
    let both = and_parts _ _ (sym (list_all-append is_ascii_digit (take r integer) (drop r integer)) ∙ split) in
    digits_append (front_group (take r integer)) (grouped (drop r integer) ++ grouped decimals)
    (front_digits (take r integer) (omega (arith, has.first)) both.0)
    (digits_append (grouped (drop r integer)) (grouped decimals) (grouped_digits (drop r integer) both.1)
    (grouped_digits decimals k))

base_is : (integer decimals : List ℕ) → base_digits integer decimals ≡ integer_groups integer ++ grouped decimals
base_is integer decimals =
    sym (append_assoc (front_group (take (length integer % 4) integer)) (grouped (drop (length integer % 4) integer))
    (grouped decimals))

pub base_length : (integer decimals : List ℕ)
    → 4 * length (base_digits integer decimals) < length integer + length decimals + 8
base_length integer decimals =
    omega (
      arith,
      ap length (base_is integer decimals),
      length-append (integer_groups integer) (grouped decimals),
      groups_count integer,
      grouped_length decimals,
    )

-- what the digits count for, of which the first has the weight that the digits before the point give it
pub base_units : (integer decimals : List ℕ) (weight : ℤ) (count : ℕ) → weight +ℤ pos 1 ≡ pos count
    → length integer ≤ 4 * count → 4 * count < length integer + 4
    → units weight (length decimals) (base_digits integer decimals) ≡ digits_value 10 (integer ++ decimals)
base_units integer decimals weight count at low high =
    let groups = integer_groups integer in
    let last = grouped decimals in
    let k = length last in
    let s = length decimals in
    let many = groups_count integer in
    let more = grouped_length decimals in
    let all : length groups ≡ count = omega (arith, low, high, many.0, many.1) in
    let place : weight +ℤ pos (k + 1) ≡ pos (length groups + k) = omega (arith, ints, at, all) in
    let front : weight +ℤ pos 1 ≡ pos (length groups) = omega (arith, ints, at, all) in
    let complete : shown weight s (groups ++ last) ≡ groups ++ last =
    front_shown weight s groups last front (grouped_shown 0 s decimals (omega arith)) in
    let counts : units weight s (groups ++ last) * 10 ^ (4 * k - s) ≡ counted (groups ++ last) (length groups + k) =
    units_counted weight s k (groups ++ last) (length groups + k) more.0 place (omega (arith, length-append groups last))
    complete in
    let value : counted (groups ++ last) (length groups + k)
    ≡ digits_value 10 integer * 10 ^ (4 * k) + digits_value 10 decimals * 10 ^ (4 * k - s) =
    counted_append groups last
    ∙ ap (λ v. v * 10 ^ (4 * k) + counted last k) (groups_value integer)
    ∙ ap (λ v. digits_value 10 integer * 10 ^ (4 * k) + v) (grouped_value decimals) in
    let sum : s + (4 * k - s) ≡ 4 * k = omega (arith, more.0) in
    let power : 10 ^ (4 * k) ≡ 10 ^ s * 10 ^ (4 * k - s) =
    ap (λ n. 10 ^ n) (sym sum) ∙ pow-add 10 s (4 * k - s) in
    let whole : digits_value 10 (integer ++ decimals) ≡ digits_value 10 integer * 10 ^ s + digits_value 10 decimals =
    after_append 0 integer decimals ∙ after_value (digits_value 10 integer) decimals in
    ap (units weight s) (base_is integer decimals)
    ∙ same_factor (units weight s (groups ++ last)) (digits_value 10 integer) (digits_value 10 decimals) (10 ^ s)
    (10 ^ (4 * k - s)) (10 ^ (4 * k)) (one-le-pow (4 * k - s) 10 (omega arith)) power (counts ∙ value)
    ∙ sym whole
  where
    same_factor : (u i d p r q : ℕ) → 0 < r → q ≡ p * r → u * r ≡ i * q + d * r → u ≡ i * p + d
    same_factor u i d p r q some e h = eq_of_mul-eq-mul_right r some u (i * p + d) (h ∙ rw e (omega arith))

pub decimal_take : (n : ℕ) (ds : List ℕ) → list_all is_ascii_digit ds ≡ true
    → list_all is_ascii_digit (take n ds) ≡ true
decimal_take zero ds h = refl
decimal_take (suc n) [] h = refl
decimal_take (suc n) (d ∷ ds) h =
    let both = and_parts _ _ h in
    and_from (is_ascii_digit d) (list_all is_ascii_digit (take n ds)) both.0 (decimal_take n ds both.1)

-- what the loops over decimal digits are proved by
pub ruleset group_steps = (grouped_more, grouped_three, grouped_two, grouped_one, grouped_none, decimal_at, decimal_drop)

pub ruleset front_steps = (front_three, front_two, front_one, front_none, decimal_at)

pub base_joined : (integer decimals front others last : List ℕ) → front ≡ front_group (take (length integer % 4) integer)
    → others ≡ grouped (drop (length integer % 4) integer) → last ≡ grouped decimals
    → (front ++ others) ++ last ≡ base_digits integer decimals
base_joined integer decimals front others last e h k = rw (e, h, k) (sym (base_is integer decimals))

pub first_few : (ds : List ℕ) → length (take (length ds % 4) ds) < 4
first_few ds = omega (arith, length-take-le (length ds % 4) ds (omega arith))

pub ruleset base_steps = (decimal_drop, decimal_take, append_assoc, first_few, base_joined)
