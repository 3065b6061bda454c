-- Lemmas on the numbers of texts.
use Rattle.std.specs.Prelude.{◌≡◌, ℕ, zero, suc, ◌+◌, ◌*◌, ◌<◌, ◌≤◌, ◌==◌, ◌&&◌, nat_lt}
use Rattle.std.specs.Prelude.{ℤ, negsuc, pos, ◌-ℤ◌, ◌+ℤ◌, FitsSigned}
use Rattle.std.specs.Prelude.{List, [], ◌∷◌, ◌++◌, drop, length, take, Bool, true, false, refl, if◌then◌else◌}
use Rattle.std.specs.Char.{is_ascii_digit}
use Rattle.std.specs.Fmt.{sign_text}
use Rattle.std.specs.List.{list_all}
use Rattle.std.specs.Str.Parse.{digits_value, starts_with_minus, without_leading_sign}
use Rattle.std.proofs.Common.{sym, ◌∙◌, ap, subst, arith, inl, inr, of_z, to_z}
use Rattle.std.specs.Int.{w16, w32}
use Rattle.std.proofs.lemmas.Int.{ints, to_z-of_z, to_z_pos}
use Rattle.pg_numbers.specs.Laws.Numeric.{number_facts}
use Rattle.std.proofs.lemmas.Bool.{and_parts, lt-ltb, and_right}
use Rattle.std.proofs.lemmas.Bool.Decides.{eqb_tells}
use Rattle.std.proofs.lemmas.List.{nil_from_length}
use Rattle.pg_numbers.specs.Numeric.{Parts, are_digits, canonical, from_digits, from_first, parts, shown, units_of}
use Rattle.pg_numbers.specs.Numeric.{is_number, without_trailing}
use Rattle.pg_numbers.specs.NumericTexts.{IsScaled, base_digits, decimals_of, decimals_text, integer_of}
use Rattle.pg_numbers.specs.NumericTexts.{integer_text, is_numeral, number_text}
use Rattle.pg_numbers.specs.NumericTexts.{point_of}
use Rattle.pg_numbers.proofs.NumberTexts.{decimals_are_digits, integer_is_digits}
use Rattle.pg_numbers.proofs.OrderedValues.{some_units}
use Rattle.pg_numbers.proofs.ReadTexts.{ascii_range, base_units}
use Rattle.pg_numbers.proofs.Units.{canonical_scale, canonical_units}
use Rattle.pg_numbers.proofs.Values.{none_or_some, zero_is}

-- ---- the number that is read

-- its sign, where it is not 0
digits_sign : (negative : Bool) (weight : ℤ) (scale : ℕ) (ds : List ℕ)
    → 0 < length (from_digits negative weight scale ds).digits
    → (from_digits negative weight scale ds).negative ≡ negative
digits_sign negative weight scale [] h = absurd (omega (arith, h))
digits_sign negative weight scale (d ∷ ds) h = refl

first_sign : (negative : Bool) (weight : ℤ) (scale : ℕ) (ds : List ℕ)
    → 0 < length (from_first negative weight scale ds).digits
    → (from_first negative weight scale ds).negative ≡ negative
first_sign negative weight scale [] h = absurd (omega (arith, h))
first_sign negative weight scale (d ∷ ds) h = elim (eqb_tells d 0) [
  | inl none ↦
      let step : from_first negative weight scale (d ∷ ds) ≡ from_first negative (weight -ℤ pos 1) scale ds =
      rw none.0 refl in
      ap (λ q. q.negative) step
      ∙ first_sign negative (weight -ℤ pos 1) scale ds (omega (arith, h, ap (λ q. length q.digits) step))
  | inr other ↦
      let left = without_trailing (shown weight scale (d ∷ ds)) in
      let step : from_first negative weight scale (d ∷ ds) ≡ from_digits negative weight scale left = rw other.0 refl in
      ap (λ q. q.negative) step
      ∙ digits_sign negative weight scale left (omega (arith, h, ap (λ q. length q.digits) step))
]

and_true : (b : Bool) → (b && true) ≡ b
and_true true = refl
and_true false = refl

pub signed_number : (q p : Parts) → p ≡ canonical q → canonical p ≡ p → are_digits p.digits ≡ true
    → p.negative ≡ (q.negative && nat_lt 0 (units_of p))
signed_number q p e same digits = elim (none_or_some p.digits) [
  | inl none ↦
      let zero_units : units_of p ≡ 0 = ap (λ ds. units_of (parts p.negative p.weight p.scale ds)) none in
      let nothing : nat_lt 0 (units_of p) ≡ false = ap (nat_lt 0) zero_units in
      (zero_is p same none).0 ∙ sym (and_right q.negative false refl) ∙ ap (λ b. q.negative && b) (sym nothing)
  | inr some ↦
      let something : nat_lt 0 (units_of p) ≡ true = lt-ltb 0 (units_of p) (some_units p same digits some) in
      ap (λ x. x.negative) e
      ∙ first_sign q.negative q.weight q.scale q.digits (omega (arith, some, ap (λ x. length x.digits) e))
      ∙ sym (and_true q.negative) ∙ ap (λ b. q.negative && b) (sym something)
]

-- ---- texts that were written

other_code : (c d : ℕ) → is_ascii_digit c ≡ true → d < 48 → (c == d) ≡ false
other_code c d h k =
    let range = ascii_range c h in
    elim (eqb_tells c d) [
      | inl same ↦ absurd (omega (arith, same.1, range.0, k))
      | inr other ↦ other.0
    ]

-- digits have no sign
no_sign : (xs ys : List ℕ) → 0 < length xs → list_all is_ascii_digit xs ≡ true
    → (starts_with_minus (xs ++ ys) ≡ false) × (without_leading_sign (xs ++ ys) ≡ xs ++ ys)
no_sign [] ys some h = absurd (omega (arith, some))
no_sign (c ∷ cs) ys some h =
    let digit = (and_parts _ _ h).0 in
    let minus : (c == 45) ≡ false = other_code c 45 digit (omega arith) in
    let plus : (c == 43) ≡ false = other_code c 43 digit (omega arith) in
    (minus, rw (minus, plus) refl)

-- and no point
digits_before : (xs ys : List ℕ) → list_all is_ascii_digit xs ≡ true
    → point_of (xs ++ ys) ≡ length xs + point_of ys
digits_before [] ys h = omega arith
digits_before (c ∷ cs) ys h =
    let both = and_parts _ _ h in
    let other : (c == 46) ≡ false = other_code c 46 both.0 (omega arith) in
    let more : point_of (c ∷ (cs ++ ys)) ≡ 1 + point_of (cs ++ ys) = rw other refl in
    omega (arith, more, digits_before cs ys both.1)

take_front : (xs ys : List ℕ) → take (length xs) (xs ++ ys) ≡ xs
take_front [] ys = refl
take_front (x ∷ xs) ys = ap (λ zs. x ∷ zs) (take_front xs ys)

drop_front : (xs ys : List ℕ) → drop (length xs) (xs ++ ys) ≡ ys
drop_front [] ys = refl
drop_front (x ∷ xs) ys = drop_front xs ys

abbrev pub fraction_text : Parts → List ℕ
fraction_text p = if p.scale == 0 then [] else 46 ∷ decimals_text p

parts_of_text : (xs ys : List ℕ) → list_all is_ascii_digit xs ≡ true → point_of ys ≡ 0
    → (integer_of (xs ++ ys) ≡ xs) × (decimals_of (xs ++ ys) ≡ drop 1 ys)
parts_of_text xs ys h none =
    let at : point_of (xs ++ ys) ≡ length xs = omega (arith, digits_before xs ys h, none) in (
      ap (λ n. take n (xs ++ ys)) at ∙ take_front xs ys,
      ap (λ n. drop 1 (drop n (xs ++ ys))) at ∙ ap (drop 1) (drop_front xs ys),
    )

no_decimals : (scale : ℕ) (ds : List ℕ) → length ds ≡ scale
    → (point_of (if scale == 0 then [] else 46 ∷ ds) ≡ 0) × (drop 1 (if scale == 0 then [] else 46 ∷ ds) ≡ ds)
no_decimals scale ds h = elim (eqb_tells scale 0) [
  | inl none ↦
      let text : (if scale == 0 then [] else 46 ∷ ds) ≡ [] = rw none.0 refl in
      (ap point_of text, ap (drop 1) text ∙ sym (nil_from_length ds (h ∙ none.1)))
  | inr other ↦
      let text : (if scale == 0 then [] else 46 ∷ ds) ≡ 46 ∷ ds = rw other.0 refl in
      (ap point_of text, ap (drop 1) text)
]

-- the parts of a number's text
pub text_parts : (p : Parts) → are_digits p.digits ≡ true
    → (integer_of (integer_text p ++ fraction_text p) ≡ integer_text p)
    × (decimals_of (integer_text p ++ fraction_text p) ≡ decimals_text p)
text_parts p h =
    let decimals = decimals_are_digits p h in
    let integer = integer_is_digits p h in
    let point = no_decimals p.scale (decimals_text p) decimals.1 in
    let both = parts_of_text (integer_text p) (fraction_text p) integer.0 point.0 in
    (both.0, both.1 ∙ point.1)

-- and its sign
pub text_sign : (p : Parts) → are_digits p.digits ≡ true
    → (starts_with_minus (number_text p) ≡ p.negative)
    × (without_leading_sign (number_text p) ≡ integer_text p ++ fraction_text p)
text_sign p h =
    let integer = integer_is_digits p h in
    signed p.negative (integer_text p) (fraction_text p) integer.1 integer.0
  where
    signed : (negative : Bool) (xs ys : List ℕ) → 0 < length xs → list_all is_ascii_digit xs ≡ true
        → (starts_with_minus (sign_text negative ++ (xs ++ ys)) ≡ negative)
        × (without_leading_sign (sign_text negative ++ (xs ++ ys)) ≡ xs ++ ys)
    signed true xs ys some h = (refl, refl)
    signed false xs ys some h = no_sign xs ys some h

-- ---- the digits of a numeral

pub numeral_integer : (integer decimals : List ℕ) → is_numeral integer decimals ≡ true
    → list_all is_ascii_digit integer ≡ true
numeral_integer integer decimals h = (and_parts _ _ (and_parts _ _ h).0).1

pub numeral_decimals : (integer decimals : List ℕ) → is_numeral integer decimals ≡ true
    → list_all is_ascii_digit decimals ≡ true
numeral_decimals integer decimals h = (and_parts _ _ h).1

-- ---- the answer of a text

one_less : (n : ℕ) → n ≤ 32768 → FitsSigned w32 (pos n -ℤ pos 1) × FitsSigned w16 (pos n -ℤ pos 1)
one_less zero h =
    let is : pos 0 -ℤ pos 1 ≡ negsuc 0 = omega (arith, ints) in (
      subst (FitsSigned w32) (sym is) (record { sfits = omega (arith, ints) }),
      subst (FitsSigned w16) (sym is) (record { sfits = omega (arith, ints) }),
    )
one_less (suc n) h =
    let is : pos (suc n) -ℤ pos 1 ≡ pos n = omega (arith, ints) in (
      subst (FitsSigned w32) (sym is) (record { sfits = omega (arith, ints, h) }),
      subst (FitsSigned w16) (sym is) (record { sfits = omega (arith, ints, h) }),
    )

-- the weight that the code computes
pub weight_of : (n : ℕ) → n ≤ 32768
    → to_z w16 (of_z w16 (to_z w32 (of_z w32 (to_z w32 n -ℤ pos 1)))) ≡ pos n -ℤ pos 1
weight_of n h =
    let fits = one_less n h in
    ap (λ x. to_z w16 (of_z w16 (to_z w32 (of_z w32 (x -ℤ pos 1))))) (to_z_pos w32 n (omega (arith, h)))
    ∙ ap (λ x. to_z w16 (of_z w16 x)) (to_z-of_z w32 (pos n -ℤ pos 1) fits.0)
    ∙ to_z-of_z w16 (pos n -ℤ pos 1) fits.1

pub parsed : (negative : Bool) (p : Parts) (z : ℤ) (count : ℕ) (integer decimals ds : List ℕ)
    → ds ≡ base_digits integer decimals → p ≡ canonical (parts negative z (length decimals) ds)
    → z ≡ pos count -ℤ pos 1 → length integer ≤ 4 * count → 4 * count < length integer + 4 → is_number p ≡ true
    → IsScaled negative (digits_value 10 (integer ++ decimals)) (length decimals) p
parsed negative p z count integer decimals ds b e w low high number =
    let weight = pos count -ℤ pos 1 in
    let q = parts negative weight (length decimals) (base_digits integer decimals) in
    let is : p ≡ canonical q =
    e ∙ ap (λ x. canonical (parts negative x (length decimals) ds)) w
    ∙ ap (λ xs. canonical (parts negative weight (length decimals) xs)) b in
    let facts = number_facts p number in
    let at : weight +ℤ pos 1 ≡ pos count = omega (arith, ints) in
    record {
      number = number;
      scale = ap (λ x. x.scale) is ∙ canonical_scale q;
      units = ap units_of is ∙ canonical_units q ∙ base_units integer decimals weight count at low high;
      sign = signed_number q p is facts.itself facts.digits;
    }
