-- Lemmas on exponents: what moving the point does to digits.
use Rattle.std.specs.Prelude.{◌≡◌, ℕ, zero, suc, ◌+◌, ◌-◌, ◌*◌, ◌^◌, ◌<◌, ◌≤◌, ◌==◌, ◌&&◌, nat_le, nat_lt, ◌⊎◌, None, Option, Some}
use Rattle.std.specs.Prelude.{Err, IfErr, IfOk, IfSome, Ok, Result}
use Rattle.std.specs.Prelude.{List, [], ◌∷◌, ◌++◌, drop, length, replicate, take, Bool, true, false, refl}
use Rattle.std.specs.Prelude.{if◌then◌else◌}
use Rattle.std.specs.Char.{digit_value, is_ascii_digit}
use Rattle.std.specs.List.{list_all}
use Rattle.std.specs.Str.Parse.{digits_value, digits_value_after}
use Rattle.std.proofs.Common.{sym, ◌∙◌, ap, subst, arith, get_or, inl, inr, le-ltb, length-append}
use Rattle.std.proofs.Math.Seq.{take-length}
use Rattle.std.proofs.lemmas.Bool.{and_parts, and_right, le-leb, lt-leb, lt-ltb}
use Rattle.std.proofs.lemmas.Bool.Decides.{eqb_tells}
use Rattle.std.proofs.lemmas.List.{length-drop, length-replicate, nil_from_length, take-append-drop}
use Rattle.std.proofs.lemmas.Nat.{pow-add}
use Rattle.pg_base.specs.Formats.{first_fault_of}
use Rattle.pg_types.specs.Faults.{Answers, Refusal, refusal_of}
use Rattle.pg_types.specs.declared.fault.Fault.{Fault}
use Rattle.pg_types.specs.declared.fault.Fault.TheVariants.{Memory}
use Rattle.pg_numbers.specs.Numeric.{Parts, max_scale}
use Rattle.pg_numbers.specs.NumericExponents.{exponent_at, exponent_of, is_below, is_exponent, mantissa_of}
use Rattle.pg_numbers.specs.NumericExponents.{moved_digits, moved_scale, moved_zeros, power_digits, power_limit}
use Rattle.pg_numbers.specs.NumericExponents.{power_value, zeros_after}
use Rattle.pg_numbers.specs.NumericTexts.{IsScaled, IsSpelled, ReadsMoved, ReadsNumeral, decimal_zeros, decimals_of}
use Rattle.pg_numbers.specs.NumericTexts.{fits_moved, fits_places}
use Rattle.pg_numbers.specs.NumericTexts.{integer_of, invalid_text, is_numeral, max_integer, numeral_checks, point_of}
use Rattle.pg_numbers.specs.NumericTexts.{too_long, without_leading_zeros}
use Rattle.pg_numbers.proofs.NumberTexts.{after_append, all_append}
use Rattle.pg_numbers.proofs.ParsedNumbers.{numeral_decimals, numeral_integer}
use Rattle.pg_numbers.proofs.ReadTexts.{ascii_range, decimal_at, decimal_drop, zeros_value}

-- ---- texts without an exponent

not_letter : (c d : ℕ) → is_ascii_digit c ≡ true → 57 < d → (c == d) ≡ false
not_letter c d h k =
    let range = ascii_range c h in
    elim (eqb_tells c d) [
      | inl same ↦ absurd (omega (arith, same.1, range.1, range.2, k))
      | inr other ↦ other.0
    ]

-- the letter that begins an exponent is no digit
next_digit : (c : ℕ) (cs : List ℕ) → is_ascii_digit c ≡ true → exponent_at cs ≡ length cs
    → exponent_at (c ∷ cs) ≡ length (c ∷ cs)
next_digit c cs h k =
    let small : (c == 101) ≡ false = not_letter c 101 h (omega arith) in
    let big : (c == 69) ≡ false = not_letter c 69 h (omega arith) in
    let more : exponent_at (c ∷ cs) ≡ 1 + exponent_at cs = rw (small, big) refl in
    omega (arith, more, k)

digits_alone : (ds : List ℕ) → list_all is_ascii_digit ds ≡ true → exponent_at ds ≡ length ds
digits_alone [] h = refl
digits_alone (c ∷ cs) h =
    let both = and_parts _ _ h in
    next_digit c cs both.0 (digits_alone cs both.1)

-- and a point is none
digits_and_point : (text : List ℕ) → list_all is_ascii_digit (integer_of text) ≡ true
    → list_all is_ascii_digit (decimals_of text) ≡ true → exponent_at text ≡ length text
digits_and_point [] h k = refl
digits_and_point (c ∷ cs) h k = elim (eqb_tells c 46) [
  | inl point ↦
      let none : point_of (c ∷ cs) ≡ 0 = rw point.0 refl in
      let left : decimals_of (c ∷ cs) ≡ cs = ap (λ n. drop 1 (drop n (c ∷ cs))) none in
      let small : (c == 101) ≡ false = ap (λ x. x == 101) point.1 in
      let big : (c == 69) ≡ false = ap (λ x. x == 69) point.1 in
      let more : exponent_at (c ∷ cs) ≡ 1 + exponent_at cs = rw (small, big) refl in
      omega (arith, more, digits_alone cs (ap (list_all is_ascii_digit) (sym left) ∙ k))
  | inr other ↦
      let more : point_of (c ∷ cs) ≡ suc (point_of cs) = rw other.0 (omega arith) in
      let front : integer_of (c ∷ cs) ≡ c ∷ integer_of cs = ap (λ n. take n (c ∷ cs)) more in
      let last : decimals_of (c ∷ cs) ≡ decimals_of cs = ap (λ n. drop 1 (drop n (c ∷ cs))) more in
      let both = and_parts _ _ (ap (list_all is_ascii_digit) (sym front) ∙ h) in
      next_digit c cs both.0 (digits_and_point cs both.1 (ap (list_all is_ascii_digit) (sym last) ∙ k))
]

pub no_exponent : (text : List ℕ) → list_all is_ascii_digit (integer_of text) ≡ true
    → list_all is_ascii_digit (decimals_of text) ≡ true → (mantissa_of text ≡ text) × (exponent_of text ≡ [])
no_exponent text h k =
    let all = digits_and_point text h k in (
      ap (λ n. take n text) all ∙ take-length text,
      nil_from_length (exponent_of text) (omega (arith, all, length-drop (exponent_at text) text)),
    )

-- ---- zeros at the front

no_zero : (c : ℕ) (cs : List ℕ) → (c == 48) ≡ false → without_leading_zeros (c ∷ cs) ≡ c ∷ cs
no_zero c cs h =
    let none : decimal_zeros (c ∷ cs) ≡ 0 = rw h refl in
    ap (λ n. drop n (c ∷ cs)) none

one_zero : (c : ℕ) (cs : List ℕ) → (c == 48) ≡ true → without_leading_zeros (c ∷ cs) ≡ without_leading_zeros cs
one_zero c cs h =
    let more : decimal_zeros (c ∷ cs) ≡ suc (decimal_zeros cs) = rw h (omega arith) in
    ap (λ n. drop n (c ∷ cs)) more

-- digits that are not all zeros, before others
pub some_before : (a b : List ℕ) → 0 < length (without_leading_zeros a)
    → without_leading_zeros a ++ b ≡ without_leading_zeros (a ++ b)
some_before [] b h = absurd (omega (arith, h))
some_before (c ∷ cs) b h = elim (eqb_tells c 48) [
  | inl none ↦
      let same = one_zero c cs none.0 in
      ap (λ xs. xs ++ b) same ∙ some_before cs b (omega (arith, h, ap length same)) ∙ sym (one_zero c (cs ++ b) none.0)
  | inr other ↦ ap (λ xs. xs ++ b) (no_zero c cs other.0) ∙ sym (no_zero c (cs ++ b) other.0)
]

-- and zeros
pub none_before : (a b : List ℕ) → length (without_leading_zeros a) ≡ 0
    → without_leading_zeros a ++ without_leading_zeros b ≡ without_leading_zeros (a ++ b)
none_before [] b h = refl
none_before (c ∷ cs) b h = elim (eqb_tells c 48) [
  | inl none ↦
      let same = one_zero c cs none.0 in
      ap (λ xs. xs ++ without_leading_zeros b) same ∙ none_before cs b (omega (arith, h, ap length same))
      ∙ sym (one_zero c (cs ++ b) none.0)
  | inr other ↦ absurd (omega (arith, h, ap length (no_zero c cs other.0)))
]

pub ruleset significant_steps = (some_before, none_before)

-- the digits before the point, without zeros at their front
front_places : (a b : List ℕ)
    → length (without_leading_zeros (a ++ b)) - length b ≡ length (without_leading_zeros a)
front_places [] b = omega (arith, length-drop (decimal_zeros b) b)
front_places (c ∷ cs) b = elim (eqb_tells c 48) [
  | inl none ↦
      ap (λ xs. length xs - length b) (one_zero c (cs ++ b) none.0) ∙ front_places cs b
      ∙ sym (ap length (one_zero c cs none.0))
  | inr other ↦
      ap (λ xs. length xs - length b) (no_zero c (cs ++ b) other.0) ∙ omega (arith, length-append cs b)
      ∙ sym (ap length (no_zero c cs other.0))
]

none_after : (count more : ℕ) → more ≡ 0 → zeros_after count more ≡ 0
none_after count more h = elim (eqb_tells count 0) [
  | inl none ↦ rw none.0 refl
  | inr other ↦ rw other.0 h
]

plain_fits : (a b : List ℕ)
    → fits_moved (a ++ b) false 0 (length b)
    ≡ (nat_le (length (without_leading_zeros a)) max_integer && nat_le (length b) max_scale)
plain_fits a b =
    let count = length (without_leading_zeros (a ++ b)) in
    let none : zeros_after count (0 - length b) ≡ 0 = none_after count (0 - length b) (omega arith) in
    let front : count + 0 - (length b - 0) ≡ length (without_leading_zeros a) = omega (arith, front_places a b) in
    let last : length b - 0 ≡ length b = omega arith in
    ap (λ n. fits_places count n (length b - 0)) none
    ∙ ap (λ n. nat_le n max_integer && nat_le (length b - 0) max_scale) front
    ∙ ap (λ n. nat_le (length (without_leading_zeros a)) max_integer && nat_le n max_scale) last

-- ---- the value of an exponent

pub power_more : (ds : List ℕ) (n : ℕ) → 1 ≤ length ds
    → digits_value_after 10 n ds ≡ digits_value_after 10 (n * 10 + digit_value (get_or ds 0 0)) (drop 1 ds)
power_more [] n h = absurd (omega (arith, h))
power_more (c ∷ cs) n h = refl

pub power_done : (ds : List ℕ) (n : ℕ) → length ds < 1 → digits_value_after 10 n ds ≡ n
power_done [] n h = refl
power_done (c ∷ cs) n h = absurd (omega (arith, h))

-- digits that follow do not make it less
pub power_least : (n : ℕ) (ds : List ℕ) → n ≤ digits_value_after 10 n ds
power_least n [] = omega arith
power_least n (c ∷ cs) = omega (arith, power_least (n * 10 + digit_value c) cs)

pub power_fits : (ds : List ℕ) (n : ℕ) → digits_value 10 ds ≡ n → n < power_limit → power_value ds ≡ Some n
power_fits ds n e h = rw (e, lt-ltb n power_limit h) refl

pub power_exceeds : (ds : List ℕ) → power_limit ≤ digits_value 10 ds → power_value ds ≡ None
power_exceeds ds h = rw (le-ltb (digits_value 10 ds) power_limit h) refl

pub ruleset power_steps = (power_more, power_done, power_least, power_fits, power_exceeds, decimal_at, decimal_drop)

-- ---- what the digits spell

zeros_spell : (n v : ℕ) → digits_value_after 10 v (replicate n 48) ≡ v * 10 ^ n
zeros_spell zero v = omega arith
zeros_spell (suc n) v =
    let one_more : suc n ≡ 1 + n = omega arith in
    let power : 10 ^ suc n ≡ 10 * 10 ^ n = ap (λ k. 10 ^ k) one_more ∙ pow-add 10 1 n in
    let next : v * 10 + digit_value 48 ≡ v * 10 = omega arith in
    ap (λ x. digits_value_after 10 x (replicate n 48)) next ∙ zeros_spell n (v * 10) ∙ step v (10 ^ n) (10 ^ suc n) power
  where
    step : (v p q : ℕ) → q ≡ 10 * p → v * 10 * p ≡ v * q
    step v p q e = rw e (omega arith)

moved_value : (ds : List ℕ) (zeros scale : ℕ)
    → digits_value 10 (moved_digits ds zeros scale) ≡ digits_value 10 ds * 10 ^ zeros
moved_value ds zeros scale =
    let front = scale - (length ds + zeros) in
    let none : 0 * 10 ^ front ≡ 0 = omega arith in
    after_append 0 (replicate front 48) (ds ++ replicate zeros 48)
    ∙ ap (λ v. digits_value_after 10 v (ds ++ replicate zeros 48)) (zeros_spell front 0 ∙ none)
    ∙ after_append 0 ds (replicate zeros 48) ∙ zeros_spell zeros (digits_value 10 ds)

moved_length : (ds : List ℕ) (zeros scale : ℕ)
    → length (moved_digits ds zeros scale) ≡ (scale - (length ds + zeros)) + (length ds + zeros)
moved_length ds zeros scale =
    let front = scale - (length ds + zeros) in
    omega (
      arith,
      length-append (replicate front 48) (ds ++ replicate zeros 48),
      length-append ds (replicate zeros 48),
      length-replicate {A = ℕ} front 48,
      length-replicate {A = ℕ} zeros 48,
    )

-- the number 0 has no zeros after its digits, whatever its exponent is
zeros_power : (ds : List ℕ) (zeros : ℕ)
    → digits_value 10 (without_leading_zeros ds) * 10 ^ zeros_after (length (without_leading_zeros ds)) zeros
    ≡ digits_value 10 ds * 10 ^ zeros
zeros_power ds zeros =
    let front = without_leading_zeros ds in
    elim (eqb_tells (length front) 0) [
      | inl none ↦
          let empty : front ≡ [] = nil_from_length front none.1 in
          let nothing : digits_value 10 front ≡ 0 = ap (digits_value 10) empty in
          let zero_is : digits_value 10 ds ≡ 0 = sym (zeros_value ds) ∙ nothing in
          ap (λ v. v * 10 ^ zeros_after (length front) zeros) nothing
          ∙ times_zero (10 ^ zeros_after (length front) zeros) (10 ^ zeros)
          ∙ ap (λ v. v * 10 ^ zeros) (sym zero_is)
      | inr other ↦
          let all : zeros_after (length front) zeros ≡ zeros = rw other.0 refl in
          ap (λ n. digits_value 10 front * 10 ^ n) all ∙ ap (λ v. v * 10 ^ zeros) (zeros_value ds)
    ]
  where
    times_zero : (p q : ℕ) → 0 * p ≡ 0 * q
    times_zero p q = omega arith

all_zeros : (n : ℕ) → list_all is_ascii_digit (replicate n 48) ≡ true
all_zeros zero = refl
all_zeros (suc n) = all_zeros n

moved_all : (ds : List ℕ) (zeros scale : ℕ) → list_all is_ascii_digit ds ≡ true
    → list_all is_ascii_digit (moved_digits ds zeros scale) ≡ true
moved_all ds zeros scale h =
    let front = scale - (length ds + zeros) in
    all_append (replicate front 48) (ds ++ replicate zeros 48) (all_zeros front)
    (all_append ds (replicate zeros 48) h (all_zeros zeros))

pub moved_decimal : (a b front xs : List ℕ) (zeros scale : ℕ) → list_all is_ascii_digit a ≡ true
    → list_all is_ascii_digit b ≡ true → front ≡ without_leading_zeros (a ++ b) → xs ≡ moved_digits front zeros scale
    → list_all is_ascii_digit xs ≡ true
moved_decimal a b front xs zeros scale h k e d =
    ap (list_all is_ascii_digit) d
    ∙ moved_all front zeros scale
    (ap (list_all is_ascii_digit) e ∙ decimal_drop (decimal_zeros (a ++ b)) (a ++ b) (all_append a b h k))

-- ---- the number with a moved point

rescaled : (negative : Bool) (total total2 places places2 : ℕ) (p : Parts) → total ≡ total2 → places ≡ places2
    → IsScaled negative total places p → IsScaled negative total2 places2 p
rescaled negative total total2 places places2 p e k h =
    subst (λ n. IsScaled negative n places2 p) e (subst (λ n. IsScaled negative total n p) k h)

-- the digits of a number, cut at the point
pub record IsCut (ds : List ℕ) (more scale : ℕ) (integer decimals : List ℕ) : Type 0 where
  pub joined : integer ++ decimals
      ≡ moved_digits (without_leading_zeros ds) (zeros_after (length (without_leading_zeros ds)) more) scale
  pub places : length decimals ≡ scale

pub cut : (ds : List ℕ) (more scale : ℕ) (xs integer decimals : List ℕ) (place : ℕ)
    → xs ≡ moved_digits (without_leading_zeros ds) (zeros_after (length (without_leading_zeros ds)) more) scale
    → place ≡ length xs - scale → integer ≡ take place xs → decimals ≡ drop place xs → IsCut ds more scale integer decimals
cut ds more scale xs integer decimals place e at h k =
    let front = without_leading_zeros ds in
    record {
      joined = ap (λ ys. ys ++ decimals) h ∙ ap (λ ys. take place xs ++ ys) k ∙ take-append-drop place xs ∙ e;
      places = omega (
        arith,
        ap length k,
        length-drop place xs,
        ap length e,
        moved_length front (zeros_after (length front) more) scale,
        at,
      );
    }

moved_number : (negative : Bool) (ds : List ℕ) (more scale : ℕ) (integer decimals : List ℕ) (p : Parts)
    → IsCut ds more scale integer decimals
    → IsScaled negative (digits_value 10 (integer ++ decimals)) (length decimals) p
    → IsScaled negative (digits_value 10 ds * 10 ^ more) scale p
moved_number negative ds more scale integer decimals p h k =
    let front = without_leading_zeros ds in
    let total : digits_value 10 (integer ++ decimals) ≡ digits_value 10 ds * 10 ^ more =
    ap (digits_value 10) h.joined ∙ moved_value front (zeros_after (length front) more) scale ∙ zeros_power ds more in
    rescaled negative _ _ _ _ p total h.places k

pub moved_answers : (negative : Bool) (ds : List ℕ) (below : Bool) (power many : ℕ) (integer decimals : List ℕ)
    (r : Result Parts Fault) → fits_moved ds below power many ≡ true
    → IsCut ds (moved_zeros below power many) (moved_scale below power many) integer decimals
    → IfOk r (IsScaled negative (digits_value 10 (integer ++ decimals)) (length decimals))
    → IfErr r (λ fault. fault ≡ Memory) → Answers (ReadsMoved negative ds below power many) r
moved_answers negative ds below power many integer decimals (Ok p) fits h k m =
    (fits, moved_number negative ds (moved_zeros below power many) (moved_scale below power many) integer decimals p h k)
moved_answers negative ds below power many integer decimals (Err f) fits h k m =
    subst (λ x. IfSome (refusal_of x) (λ r. ReadsMoved negative ds below power many (Err r))) (sym m) tt

-- ---- texts of digits and a point alone

-- the first fault of a text of that mantissa and exponent
abbrev fault_of : List ℕ → List ℕ → Option Refusal
fault_of mantissa exponent =
    if is_numeral (integer_of mantissa) (decimals_of mantissa) && is_exponent exponent then (
    if nat_lt (digits_value 10 (power_digits exponent)) power_limit
    && fits_moved (integer_of mantissa ++ decimals_of mantissa) (is_below exponent)
    (digits_value 10 (power_digits exponent)) (length (decimals_of mantissa)) then None else Some too_long
    ) else Some invalid_text

-- and its number
abbrev spelled_of : Bool → Parts → List ℕ → List ℕ → Type 0
spelled_of negative p mantissa exponent =
    let power = digits_value 10 (power_digits exponent) in
    let decimals = length (decimals_of mantissa) in
    IsScaled negative
    (digits_value 10 (integer_of mantissa ++ decimals_of mantissa) * 10 ^ moved_zeros (is_below exponent) power decimals)
    (moved_scale (is_below exponent) power decimals) p

pub plain_fault : (text : List ℕ) → is_numeral (integer_of text) (decimals_of text) ≡ true
    → first_fault_of (numeral_checks text)
    ≡ (if nat_le (length (without_leading_zeros (integer_of text))) max_integer
    && nat_le (length (decimals_of text)) max_scale then None else Some too_long)
plain_fault text h =
    let a = integer_of text in
    let b = decimals_of text in
    let none = no_exponent text (numeral_integer a b h) (numeral_decimals a b h) in
    let same : fault_of text [] ≡ (if fits_moved (a ++ b) false 0 (length b) then None else Some too_long) =
    rw h refl in
    ap (λ m. fault_of m (exponent_of text)) none.0 ∙ ap (fault_of text) none.1 ∙ same
    ∙ ap (λ t. if t then None else Some too_long) (plain_fits a b)

pub plain_spelled : (negative : Bool) (text : List ℕ) (p : Parts)
    → is_numeral (integer_of text) (decimals_of text) ≡ true
    → IsScaled negative (digits_value 10 (integer_of text ++ decimals_of text)) (length (decimals_of text)) p
    → IsSpelled negative text p
plain_spelled negative text p h k =
    let a = integer_of text in
    let b = decimals_of text in
    let none = no_exponent text (numeral_integer a b h) (numeral_decimals a b h) in
    let total : digits_value 10 (a ++ b) ≡ digits_value 10 (a ++ b) * 10 ^ (0 - length b) =
    times_one (digits_value 10 (a ++ b)) (0 - length b) (omega arith) in
    let places : length b ≡ length b - 0 = omega arith in
    let plain : spelled_of negative p text [] =
    rescaled negative _ _ _ _ p total places k in
    subst (λ m. spelled_of negative p m (exponent_of text)) (sym none.0)
    (subst (spelled_of negative p text) (sym none.1) plain)
  where
    times_one : (v n : ℕ) → n ≡ 0 → v ≡ v * 10 ^ n
    times_one v n e = rw e (omega arith)

pub plain_answers : (negative : Bool) (text : List ℕ) (r : Result Parts Fault) {front last : List ℕ}
    → front ≡ without_leading_zeros (integer_of text) → last ≡ decimals_of text
    → is_numeral (integer_of text) (decimals_of text) ≡ true → length front ≤ max_integer → length last ≤ max_scale
    → IfOk r (IsScaled negative (digits_value 10 (front ++ last)) (length last))
    → IfErr r (λ fault. fault ≡ Memory) → Answers (ReadsNumeral negative text) r
plain_answers negative text (Ok p) {front} {last} e d h few short k m =
    let a = integer_of text in
    let b = decimals_of text in
    let total : digits_value 10 (front ++ last) ≡ digits_value 10 (a ++ b) =
    ap (λ xs. digits_value 10 (xs ++ last)) e ∙ ap (λ xs. digits_value 10 (without_leading_zeros a ++ xs)) d
    ∙ after_append 0 (without_leading_zeros a) b ∙ ap (λ n. digits_value_after 10 n b) (zeros_value a)
    ∙ sym (after_append 0 a b) in (
      plain_fault text h
          ∙ rw (
            le-leb (length (without_leading_zeros a)) max_integer (omega (arith, ap length e, few)),
            le-leb (length b) max_scale (omega (arith, ap length d, short)),
          ) refl,
      plain_spelled negative text p h (rescaled negative _ _ _ _ p total (ap length d) k),
    )
plain_answers negative text (Err f) e d h few short k m =
    subst (λ x. IfSome (refusal_of x) (λ r. ReadsNumeral negative text (Err r))) (sym m) tt

pub plain_too_long : (text : List ℕ) → is_numeral (integer_of text) (decimals_of text) ≡ true
    → (max_integer < length (without_leading_zeros (integer_of text))) ⊎ (max_scale < length (decimals_of text))
    → first_fault_of (numeral_checks text) ≡ Some too_long
plain_too_long text h (inl many) =
    let fails : nat_le (length (without_leading_zeros (integer_of text))) max_integer ≡ false = lt-leb _ _ many in
    plain_fault text h ∙ rw fails refl
plain_too_long text h (inr many) =
    let fails : nat_le (length (decimals_of text)) max_scale ≡ false = lt-leb _ _ many in
    plain_fault text h
    ∙ ap (λ t. if t then None else Some too_long)
    (and_right (nat_le (length (without_leading_zeros (integer_of text))) max_integer) _ fails)
