-- Lemmas on the texts of numbers: they spell the numbers' units.
use Rattle.std.specs.Prelude.{◌≡◌, ℕ, zero, suc, ◌+◌, ◌-◌, ◌*◌, ◌/◌, ◌%◌, ◌^◌, ◌<◌, ◌≤◌, ℤ, pos, negsuc, ◌-ℤ◌, ◌+ℤ◌}
use Rattle.std.specs.Prelude.{List, [], ◌∷◌, ◌++◌, length, true, refl}
use Rattle.std.specs.Char.{digit_value, is_ascii_digit}
use Rattle.std.specs.Fmt.{decimal}
use Rattle.std.specs.List.{list_all}
use Rattle.std.specs.Str.Parse.{AllDigits, digits_value, digits_value_after}
use Rattle.std.proofs.Common.{sym, ◌∙◌, ap, arith, get_or, inl, inr, length-append}
use Rattle.std.proofs.Math.Nat.{div-eq_of_lt, one-le-pow}
use Rattle.std.proofs.lemmas.Bool.{and_parts, cases_lt, le-leb, ltb-true, and_from}
use Rattle.std.proofs.lemmas.Fmt.{decimal_is_IsNumeral, length-decimal-le}
use Rattle.std.proofs.lemmas.Int.{ints}
use Rattle.std.proofs.lemmas.List.{get_or_past}
use Rattle.std.proofs.lemmas.List.Folds.{list_all-append}
use Rattle.std.proofs.lemmas.Nat.{pow-add}
use Rattle.std.proofs.lemmas.Str.{digit_value_digit}
use Rattle.std.proofs.lemmas.Str.Parse.{digit_from_value}
use Rattle.pg_calendar.specs.Texts.{padded_text}
use Rattle.pg_calendar.proofs.Padding.{last_digit, one_digit}
use Rattle.pg_numbers.specs.Numeric.{Parts, are_digits, base, canonical, hidden, shown, units_of, without_decimals}
use Rattle.pg_numbers.specs.NumericTexts.{decimals_text, digit_at, digit_of, digits_text, first_decimals, first_weight}
use Rattle.pg_numbers.specs.NumericTexts.{integer_text}
use Rattle.pg_numbers.proofs.Digits.{shown_at}
use Rattle.pg_numbers.proofs.Places.{counted, counted_next, counted_none, shown_places, units_counted}
use Rattle.pg_numbers.proofs.Values.{has_places, is_tight, none_or_some, zero_is}

-- ---- values of texts

-- what digits write after others
pub after_append : (n : ℕ) (a b : List ℕ) → digits_value_after 10 n (a ++ b)
    ≡ digits_value_after 10 (digits_value_after 10 n a) b
after_append n [] b = refl
after_append n (c ∷ cs) b = after_append (n * 10 + digit_value c) cs b

glyph : (d : ℕ) → d < 10 → digit_value (48 + d) ≡ d
glyph d h = omega (arith, digit_value_digit (48 + d) (omega arith, omega arith))

pub after_padded : (w m n : ℕ) → n < 10 ^ suc w → n < 2 ^ 64
    → digits_value_after 10 m (padded_text (suc w) n) ≡ m * 10 ^ suc w + n
after_padded zero m n h k =
    ap (digits_value_after 10 m) (one_digit n (omega (arith, h))) ∙ ap (λ d. m * 10 + d) (glyph n (omega (arith, h)))
    ∙ omega arith
after_padded (suc w) m n h k =
    let more : suc w + 1 ≡ suc (suc w) = omega arith in
    let one_more : suc (suc w) ≡ 1 + suc w = omega arith in
    let power : 10 ^ suc (suc w) ≡ 10 * 10 ^ suc w = ap (λ k. 10 ^ k) one_more ∙ pow-add 10 1 (suc w) in
    let front : n / 10 < 10 ^ suc w = omega (arith, h, power) in
    let step : padded_text (suc (suc w)) n ≡ padded_text (suc w) (n / 10) ++ (48 + n % 10) ∷ [] =
    ap (λ v. padded_text v n) (sym more) ∙ last_digit (suc w) n (omega arith) k in
    ap (digits_value_after 10 m) step ∙ after_append m (padded_text (suc w) (n / 10)) ((48 + n % 10) ∷ [])
    ∙ ap (λ v. v * 10 + digit_value (48 + n % 10)) (after_padded w m (n / 10) front (omega (arith, k)))
    ∙ ap (λ d. (m * 10 ^ suc w + n / 10) * 10 + d) (glyph (n % 10) (omega arith))
    ∙ together m (10 ^ suc w) (10 ^ suc (suc w)) n power
  where
    together : (m p q n : ℕ) → q ≡ 10 * p → (m * p + n / 10) * 10 + n % 10 ≡ m * q + n
    together m p q n e = rw e (omega arith)

pub decimal_value : (n : ℕ) → n < base → digits_value_after 10 0 (decimal n) ≡ n
decimal_value n h = (decimal_is_IsNumeral n (omega (arith, h))).1

-- ---- digits by their weights

-- how many places there are up to one
abbrev pub places_of : ℤ → ℕ
places_of (pos n) = n
places_of (negsuc n) = 0

next_digit : (ds : List ℕ) (z : ℤ)
    → counted ds (places_of (z +ℤ pos 1)) ≡ counted ds (places_of z) * 10000 + digit_at ds z
next_digit ds (pos n) =
    let e : pos n +ℤ pos 1 ≡ pos (suc n) = omega (arith, ints) in
    ap (λ w. counted ds (places_of w)) e ∙ counted_next ds n
next_digit ds (negsuc zero) =
    let e : negsuc 0 +ℤ pos 1 ≡ pos 0 = omega (arith, ints) in
    ap (λ w. counted ds (places_of w)) e ∙ omega (arith, counted_none ds)
next_digit ds (negsuc (suc n)) =
    let e : negsuc (suc n) +ℤ pos 1 ≡ negsuc n = omega (arith, ints) in
    ap (λ w. counted ds (places_of w)) e ∙ omega (arith, counted_none ds)

digit_below : (ds : List ℕ) (n : ℕ) → are_digits ds ≡ true → get_or ds n 0 < base
digit_below [] n h = omega arith
digit_below (d ∷ ds) zero h = ltb-true d base (and_parts _ _ h).0
digit_below (d ∷ ds) (suc n) h = digit_below ds n (and_parts _ _ h).1

pub digit_small : (ds : List ℕ) (z : ℤ) → are_digits ds ≡ true → digit_at ds z < base
digit_small ds (pos n) h = digit_below ds n h
digit_small ds (negsuc n) h = omega arith

-- so many digits from a weight down
after_digits : (p : Parts) → are_digits p.digits ≡ true → (weight : ℤ) (count m : ℕ)
    → m ≡ counted p.digits (places_of (p.weight -ℤ weight))
    → digits_value_after 10 m (digits_text p weight count)
    ≡ counted p.digits (places_of (p.weight -ℤ weight +ℤ pos count))
after_digits p h weight zero m e =
    let same : p.weight -ℤ weight ≡ p.weight -ℤ weight +ℤ pos 0 = omega (arith, ints) in
    e ∙ ap (λ z. counted p.digits (places_of z)) same
after_digits p h weight (suc count) m e =
    let d = digit_of p (weight -ℤ pos count) in
    let z = p.weight -ℤ weight +ℤ pos count in
    let v = counted p.digits (places_of z) in
    let at : p.weight -ℤ (weight -ℤ pos count) ≡ z = omega (arith, ints) in
    let next : z +ℤ pos 1 ≡ p.weight -ℤ weight +ℤ pos (suc count) = omega (arith, ints) in
    let small : d < base = digit_small p.digits (p.weight -ℤ (weight -ℤ pos count)) h in
    after_append m (digits_text p weight count) (padded_text 4 d)
    ∙ ap (λ n. digits_value_after 10 n (padded_text 4 d)) (after_digits p h weight count m e)
    ∙ after_padded 3 v d small (omega (arith, small))
    ∙ ap (λ y. v * 10000 + digit_at p.digits y) at ∙ sym (next_digit p.digits z)
    ∙ ap (λ y. counted p.digits (places_of y)) next

first_place : (weight : ℤ) → places_of (weight -ℤ pos (first_weight weight)) ≡ 0
first_place (pos n) =
    let e : pos n -ℤ pos n ≡ pos 0 = omega (arith, ints) in
    ap places_of e
first_place (negsuc n) =
    let e : negsuc n -ℤ pos 0 ≡ negsuc n = omega (arith, ints) in
    ap places_of e

-- the integral part
after_integer : (p : Parts) → are_digits p.digits ≡ true
    → digits_value_after 10 0 (integer_text p) ≡ counted p.digits (places_of (p.weight +ℤ pos 1))
after_integer p h =
    let first = first_weight p.weight in
    let d = digit_of p (pos first) in
    let z = p.weight -ℤ pos first in
    let small : d < base = digit_small p.digits z h in
    let none : counted p.digits (places_of z) ≡ 0 =
    ap (counted p.digits) (first_place p.weight) ∙ counted_none p.digits in
    let begin : z +ℤ pos 1 ≡ p.weight -ℤ (pos first -ℤ pos 1) = omega (arith, ints) in
    let front : d ≡ counted p.digits (places_of (p.weight -ℤ (pos first -ℤ pos 1))) =
    omega (arith, none, next_digit p.digits z, ap (λ y. counted p.digits (places_of y)) begin) in
    let end : p.weight -ℤ (pos first -ℤ pos 1) +ℤ pos first ≡ p.weight +ℤ pos 1 = omega (arith, ints) in
    after_append 0 (decimal d) (digits_text p (pos first -ℤ pos 1) first)
    ∙ ap (λ n. digits_value_after 10 n (digits_text p (pos first -ℤ pos 1) first)) (decimal_value d small)
    ∙ after_digits p h (pos first -ℤ pos 1) first d front
    ∙ ap (λ y. counted p.digits (places_of y)) end

-- the last decimals
after_first : (r v d : ℕ) → r < 4 → d < base
    → digits_value_after 10 v (first_decimals r d) ≡ v * 10 ^ r + d / 10 ^ (4 - r)
after_first zero v d h k = omega (arith, k)
after_first (suc zero) v d h k = after_padded 0 v (d / 1000) (omega (arith, k)) (omega (arith, k))
after_first (suc (suc zero)) v d h k = after_padded 1 v (d / 100) (omega (arith, k)) (omega (arith, k))
after_first (suc (suc (suc zero))) v d h k = after_padded 2 v (d / 10) (omega (arith, k)) (omega (arith, k))
after_first (suc (suc (suc (suc r)))) v d h k = absurd (omega (arith, h))

-- the number of units, from those of the digits that are shown in full and the last one
last_units : (r u v d n : ℕ) → r < 4 → u * 10 ^ (4 - r) ≡ v * 10000 + d → d / 10 ^ (4 - r) * 10 ^ (4 - r) ≡ d
    → n ≡ v * 10 ^ r + d / 10 ^ (4 - r) → n ≡ u
last_units zero u v d n h e k l = omega (arith, e, k, l)
last_units (suc zero) u v d n h e k l = omega (arith, e, k, l)
last_units (suc (suc zero)) u v d n h e k l = omega (arith, e, k, l)
last_units (suc (suc (suc zero))) u v d n h e k l = omega (arith, e, k, l)
last_units (suc (suc (suc (suc r)))) u v d n h e k l = absurd (omega (arith, h))

-- of nothing nothing is left
nothing_left : (count : ℕ) → without_decimals count 0 ≡ 0
nothing_left count =
    let none : 0 / 10 ^ count ≡ 0 =
    div-eq_of_lt {n = 0} {m = 10 ^ count} (one-le-pow count 10 (omega arith)) in
    rw none (omega arith)

-- the last digit has no decimals that are not shown
last_shown : (weight : ℤ) (scale : ℕ) (ds : List ℕ) (z : ℤ) → shown weight scale ds ≡ ds
    → weight -ℤ z ≡ negsuc (scale / 4) → without_decimals (4 - scale % 4) (digit_at ds z) ≡ digit_at ds z
last_shown weight scale ds (pos i) all e = elim (cases_lt i (length ds)) [
  | inl inside ↦
      let count : hidden (negsuc (scale / 4)) scale ≡ 4 - scale % 4 = omega arith in
      sym (sym (ap (λ xs. get_or xs i 0) all) ∙ shown_at weight scale ds i inside
      ∙ ap (λ w. without_decimals (hidden w scale) (get_or ds i 0)) e
      ∙ ap (λ n. without_decimals n (get_or ds i 0)) count)
  | inr past ↦
      let none : get_or ds i 0 ≡ 0 = get_or_past ds i 0 past in
      ap (without_decimals (4 - scale % 4)) none ∙ nothing_left (4 - scale % 4) ∙ sym none
]
last_shown weight scale ds (negsuc i) all e = nothing_left (4 - scale % 4)

-- the place of the first digit, also of the number 0
pub places_above : (p : Parts) → canonical p ≡ p → are_digits p.digits ≡ true → (k : ℕ) → p.scale ≤ 4 * k
    → (n : ℕ) × (p.weight +ℤ pos (k + 1) ≡ pos (suc n))
places_above p e h k many = elim (none_or_some p.digits) [
  | inl none ↦
      let weight : p.weight ≡ pos 0 = (zero_is p e none).1 in
      (k, omega (arith, ints, weight))
  | inr some ↦ has_places p e h some k many
]

-- the digits of a text write the number's units
pub text_units : (p : Parts) → canonical p ≡ p → are_digits p.digits ≡ true
    → digits_value 10 (integer_text p ++ decimals_text p) ≡ units_of p
text_units p e h =
    let tight = is_tight p e in
    let q = p.scale / 4 in
    let r = p.scale % 4 in
    let k = q + 1 in
    let many : p.scale ≤ 4 * k = omega arith in
    let place = places_above p e h k many in
    let at : p.weight +ℤ pos (k + 1) ≡ pos (suc place.0) = place.1 in
    let z = p.weight +ℤ pos 1 +ℤ pos q in
    let v = counted p.digits (places_of z) in
    let d = digit_of p (negsuc q) in
    let last : p.weight -ℤ negsuc q ≡ z = omega (arith, ints) in
    let next : z +ℤ pos 1 ≡ pos (suc place.0) = omega (arith, ints, at) in
    let small : d < base = digit_small p.digits (p.weight -ℤ negsuc q) h in
    let decimals : digits_value 10 (integer_text p ++ decimals_text p) ≡ v * 10 ^ r + d / 10 ^ (4 - r) =
    after_append 0 (integer_text p) (decimals_text p)
    ∙ ap (λ n. digits_value_after 10 n (decimals_text p)) (after_integer p h)
    ∙ after_append (counted p.digits (places_of (p.weight +ℤ pos 1))) (digits_text p (negsuc 0) q) (first_decimals r d)
    ∙ ap (λ n. digits_value_after 10 n (first_decimals r d)) (all_places p h q)
    ∙ after_first r v d (omega arith) small in
    let whole : units_of p * 10 ^ (4 * k - p.scale) ≡ counted p.digits (suc place.0) =
    units_counted p.weight p.scale k p.digits (suc place.0) many at
    (shown_places p.weight p.scale k p.digits (suc place.0) many at h tight.all tight.end) tight.all in
    let more : counted p.digits (suc place.0) ≡ v * 10000 + d =
    ap (λ y. counted p.digits (places_of y)) (sym next) ∙ next_digit p.digits z
    ∙ ap (λ y. v * 10000 + digit_at p.digits y) (sym last) in
    let left : 4 - r ≡ 4 * k - p.scale = omega arith in
    let off : p.weight -ℤ (p.weight -ℤ negsuc q) ≡ negsuc (p.scale / 4) = omega (arith, ints) in
    last_units r (units_of p) v d (digits_value 10 (integer_text p ++ decimals_text p)) (omega arith)
    (ap (λ n. units_of p * 10 ^ n) left ∙ whole ∙ more)
    (last_shown p.weight p.scale p.digits (p.weight -ℤ negsuc q) tight.all off) decimals
  where
    all_places : (p : Parts) → are_digits p.digits ≡ true → (q : ℕ)
        → digits_value_after 10 (counted p.digits (places_of (p.weight +ℤ pos 1))) (digits_text p (negsuc 0) q)
        ≡ counted p.digits (places_of (p.weight +ℤ pos 1 +ℤ pos q))
    all_places p h q =
        let start : p.weight +ℤ pos 1 ≡ p.weight -ℤ negsuc 0 = omega (arith, ints) in
        after_digits p h (negsuc 0) q (counted p.digits (places_of (p.weight +ℤ pos 1)))
        (ap (λ y. counted p.digits (places_of y)) start)
        ∙ ap (λ y. counted p.digits (places_of (y +ℤ pos q))) (sym start)

-- ---- the bytes of texts

pub all_append : (a b : List ℕ) → list_all is_ascii_digit a ≡ true → list_all is_ascii_digit b ≡ true
    → list_all is_ascii_digit (a ++ b) ≡ true
all_append a b h k = list_all-append is_ascii_digit a b ∙ and_from _ _ h k

glyph_is_digit : (d : ℕ) → d < 10 → is_ascii_digit (48 + d) ≡ true
glyph_is_digit d h = and_from _ _ (le-leb 48 (48 + d) (omega arith)) (le-leb (48 + d) 57 (omega arith))

all_digits : (ds : List ℕ) → AllDigits 10 ds → list_all is_ascii_digit ds ≡ true
all_digits [] h = refl
all_digits (c ∷ cs) h =
    let range = digit_from_value c h.0 in
    and_from (is_ascii_digit c) (list_all is_ascii_digit cs)
    (and_from _ _ (le-leb 48 c range.0) (le-leb c 57 range.1)) (all_digits cs h.1)

padded_digits : (w n : ℕ) → n < 10 ^ suc w → n < 2 ^ 64
    → (list_all is_ascii_digit (padded_text (suc w) n) ≡ true) × (length (padded_text (suc w) n) ≡ suc w)
padded_digits zero n h k =
    let one : padded_text 1 n ≡ (48 + n) ∷ [] = one_digit n (omega (arith, h)) in
    let glyph : list_all is_ascii_digit ((48 + n) ∷ []) ≡ true =
    and_from (is_ascii_digit (48 + n)) true (glyph_is_digit n (omega (arith, h))) refl in
    (ap (list_all is_ascii_digit) one ∙ glyph, ap length one)
padded_digits (suc w) n h k =
    let more : suc w + 1 ≡ suc (suc w) = omega arith in
    let one_more : suc (suc w) ≡ 1 + suc w = omega arith in
    let power : 10 ^ suc (suc w) ≡ 10 * 10 ^ suc w = ap (λ k. 10 ^ k) one_more ∙ pow-add 10 1 (suc w) in
    let front : n / 10 < 10 ^ suc w = omega (arith, h, power) in
    let step : padded_text (suc (suc w)) n ≡ padded_text (suc w) (n / 10) ++ (48 + n % 10) ∷ [] =
    ap (λ v. padded_text v n) (sym more) ∙ last_digit (suc w) n (omega arith) k in
    let others = padded_digits w (n / 10) front (omega (arith, k)) in
    let glyph : list_all is_ascii_digit ((48 + n % 10) ∷ []) ≡ true =
    and_from (is_ascii_digit (48 + n % 10)) true (glyph_is_digit (n % 10) (omega arith)) refl in (
      ap (list_all is_ascii_digit) step ∙ all_append (padded_text (suc w) (n / 10)) ((48 + n % 10) ∷ []) others.0 glyph,
      ap length step ∙ length-append (padded_text (suc w) (n / 10)) ((48 + n % 10) ∷ []) ∙ ap (λ l. l + 1) others.1
          ∙ more,
    )

text_digits : (p : Parts) → are_digits p.digits ≡ true → (weight : ℤ) (count : ℕ)
    → (list_all is_ascii_digit (digits_text p weight count) ≡ true) × (length (digits_text p weight count) ≡ 4 * count)
text_digits p h weight zero = (refl, refl)
text_digits p h weight (suc count) =
    let d = digit_of p (weight -ℤ pos count) in
    let small : d < base = digit_small p.digits (p.weight -ℤ (weight -ℤ pos count)) h in
    let last = padded_digits 3 d small (omega (arith, small)) in
    let others = text_digits p h weight count in (
      all_append (digits_text p weight count) (padded_text 4 d) others.0 last.0,
      length-append (digits_text p weight count) (padded_text 4 d) ∙ omega (arith, others.1, last.1),
    )

first_digits : (r d : ℕ) → r < 4 → d < base
    → (list_all is_ascii_digit (first_decimals r d) ≡ true) × (length (first_decimals r d) ≡ r)
first_digits zero d h k = (refl, refl)
first_digits (suc zero) d h k = padded_digits 0 (d / 1000) (omega (arith, k)) (omega (arith, k))
first_digits (suc (suc zero)) d h k = padded_digits 1 (d / 100) (omega (arith, k)) (omega (arith, k))
first_digits (suc (suc (suc zero))) d h k = padded_digits 2 (d / 10) (omega (arith, k)) (omega (arith, k))
first_digits (suc (suc (suc (suc r)))) d h k = absurd (omega (arith, h))

-- the decimals are as many as the scale says
pub decimals_are_digits : (p : Parts) → are_digits p.digits ≡ true
    → (list_all is_ascii_digit (decimals_text p) ≡ true) × (length (decimals_text p) ≡ p.scale)
decimals_are_digits p h =
    let q = p.scale / 4 in
    let r = p.scale % 4 in
    let d = digit_of p (negsuc q) in
    let others = text_digits p h (negsuc 0) q in
    let last = first_digits r d (omega arith) (digit_small p.digits (p.weight -ℤ negsuc q) h) in (
      all_append (digits_text p (negsuc 0) q) (first_decimals r d) others.0 last.0,
      length-append (digits_text p (negsuc 0) q) (first_decimals r d) ∙ omega (arith, others.1, last.1),
    )

-- the digits before the point, of which there is one at least
pub integer_is_digits : (p : Parts) → are_digits p.digits ≡ true
    → (list_all is_ascii_digit (integer_text p) ≡ true) × (0 < length (integer_text p))
    × (length (integer_text p) ≤ 4 * (first_weight p.weight + 1))
integer_is_digits p h =
    let first = first_weight p.weight in
    let d = digit_of p (pos first) in
    let small : d < base = digit_small p.digits (p.weight -ℤ pos first) h in
    let numeral = decimal_is_IsNumeral d (omega (arith, small)) in
    let few : length (decimal d) ≤ 4 = length-decimal-le 4 d (omega arith) small (omega (arith, small)) in
    let others = text_digits p h (pos first -ℤ pos 1) first in
    let sum : length (integer_text p) ≡ length (decimal d) + 4 * first =
    length-append (decimal d) (digits_text p (pos first -ℤ pos 1) first)
    ∙ ap (λ n. length (decimal d) + n) others.1 in (
      all_append (decimal d) (digits_text p (pos first -ℤ pos 1) first) (all_digits (decimal d) numeral.0.1) others.0,
      omega (arith, sum, numeral.0.0),
      omega (arith, sum, few),
    )
