-- Lemmas on the texts of values: each is read as its value, and no text is read as two.
use Rattle.std.specs.Prelude.{◌≡◌, ℕ, ◌-◌, ◌==◌, ◌&&◌, ◌<◌, ◌≤◌, nat_lt, not, List, [], ◌∷◌, ◌++◌}
use Rattle.std.specs.Prelude.{drop, length, take, if◌then◌else◌, Bool, true, false, refl}
use Rattle.std.specs.Prelude.{IfSome, MatchOption, Option, None, Some, Ok, Err}
use Rattle.std.specs.Char.{is_ascii_digit, to_ascii_lowercase}
use Rattle.std.specs.Float.Parse.{is_infinity_text, is_nan_text}
use Rattle.std.specs.Fmt.{sign_text}
use Rattle.std.specs.List.{list_all, prefix_len, suffix_len}
use Rattle.std.specs.Str.Parse.{digits_value, starts_with_minus, without_leading_sign}
use Rattle.std.proofs.Common.{sym, ◌∙◌, ap, subst, arith, get_or, inl, inr}
use Rattle.std.proofs.Math.Seq.{take-length}
use Rattle.std.proofs.lemmas.Bool.{and_parts, le-leb, leb-true, and_from}
use Rattle.std.proofs.lemmas.Bool.Decides.{eqb_tells, nat_tests}
use Rattle.std.proofs.lemmas.Int.{ints}
use Rattle.std.proofs.lemmas.List.{length-drop}
use Rattle.std.proofs.lemmas.List.Folds.{list_all-append}
use Rattle.std.proofs.lemmas.List.Sums.{AllPass-from_list_all, prefix_len_is, suffix_len_is}
use Rattle.pg_types.specs.Faults.{Outcome, Refusal}
use Rattle.pg_numbers.specs.Laws.Numeric.{number_facts}
use Rattle.pg_numbers.specs.Numeric.{Parts, is_number, max_scale, units_of}
use Rattle.pg_numbers.specs.NumericCells.{is_numeric}
use Rattle.pg_numbers.specs.NumericTexts.{IsSpelled, ParsesFinite, ParsesNumber, ParsesNumeric, ReadsNumeral}
use Rattle.pg_numbers.specs.NumericTexts.{decimal_zeros, decimals_of, decimals_text}
use Rattle.pg_numbers.specs.NumericTexts.{integer_of, integer_text, is_numeral, is_space, max_integer, number_text}
use Rattle.pg_numbers.specs.NumericTexts.{numeric_text, trimmed, trimmed_end, without_leading_zeros}
use Rattle.pg_numbers.specs.NumericTexts.{word_value}
use Rattle.pg_numbers.specs.declared.numeric.Numeric.{Numeric}
use Rattle.pg_numbers.specs.declared.numeric.Numeric.TheVariants.{NaN, Infinity, NegativeInfinity, Finite}
use Rattle.pg_numbers.proofs.Exponents.{plain_fault, plain_spelled}
use Rattle.pg_numbers.proofs.NumberTexts.{decimals_are_digits, integer_is_digits, text_units}
use Rattle.pg_numbers.proofs.OrderedValues.{known_by_units}
use Rattle.pg_numbers.proofs.ParsedNumbers.{fraction_text, signed_number, text_parts, text_sign}
use Rattle.pg_numbers.proofs.WrittenDigits.{first_below}
use Rattle.pg_base.proofs.CompletenessBits.{no_from_not}

-- ---- what the text of a number spells

some_numeral : (integer decimals : List ℕ) → 0 < length integer → list_all is_ascii_digit integer ≡ true
    → list_all is_ascii_digit decimals ≡ true → is_numeral integer decimals ≡ true
some_numeral integer decimals some h k = elim (eqb_tells (length integer) 0) [
  | inl none ↦ absurd (omega (arith, none.1, some))
  | inr other ↦ rw (other.0, h, k) refl
]

number_spelled : (p : Parts) → is_number p ≡ true
    → ReadsNumeral p.negative (integer_text p ++ fraction_text p) (Ok p)
number_spelled p h =
    let facts = number_facts p h in
    let text = integer_text p ++ fraction_text p in
    let both = text_parts p facts.digits in
    let integer = integer_is_digits p facts.digits in
    let decimals = decimals_are_digits p facts.digits in
    let few : length (without_leading_zeros (integer_of text)) ≤ max_integer =
    omega (
      arith,
      ap length both.0,
      integer.2,
      first_below p.weight (omega (arith, ints, facts.weight)),
      length-drop (decimal_zeros (integer_of text)) (integer_of text),
    ) in
    let short : length (decimals_of text) ≤ max_scale = omega (arith, ap length both.1, decimals.1, facts.scale) in
    let numeral : is_numeral (integer_of text) (decimals_of text) ≡ true =
    ap (λ xs. is_numeral xs (decimals_of text)) both.0 ∙ ap (is_numeral (integer_text p)) both.1
    ∙ some_numeral (integer_text p) (decimals_text p) integer.1 integer.0 decimals.0 in (
      plain_fault text numeral ∙ rw (le-leb _ _ few, le-leb _ _ short) refl,
      plain_spelled p.negative text p numeral record {
        number = h;
        scale = sym decimals.1 ∙ ap length (sym both.1);
        units = sym (text_units p facts.itself facts.digits)
            ∙ ap (λ xs. digits_value 10 (xs ++ decimals_text p)) (sym both.0)
            ∙ ap (λ xs. digits_value 10 (integer_of text ++ xs)) (sym both.1);
        sign = signed_number p p (sym facts.itself) facts.itself facts.digits;
      },
    )

-- the text of a number is read as that number
pub number_back : (p : Parts) → is_number p ≡ true → ParsesNumber (number_text p) (Ok p)
number_back p h =
    let text = number_text p in
    let sign = text_sign p (number_facts p h).digits in
    subst (λ b. ReadsNumeral b (without_leading_sign text) (Ok p)) (sym sign.0)
    (subst (λ xs. ReadsNumeral p.negative xs (Ok p)) (sym sign.1) (number_spelled p h))

-- ---- no text is read as two numbers

spelled_once : (negative : Bool) (text : List ℕ) (p q : Parts) → IsSpelled negative text p
    → IsSpelled negative text q → q ≡ p
spelled_once negative text p q h k =
    let a = number_facts p h.number in
    let b = number_facts q k.number in
    let units : units_of q ≡ units_of p = k.units ∙ sym h.units in
    known_by_units q p b.itself a.itself b.digits a.digits
    (k.sign ∙ ap (λ n. negative && nat_lt 0 n) units ∙ sym h.sign) (k.scale ∙ sym h.scale) units

-- a text of a number has one outcome
number_once : (text : List ℕ) (v w : Outcome Parts) → ParsesNumber text v → ParsesNumber text w → w ≡ v
number_once text (Ok p) (Ok q) h k =
    ap Ok (spelled_once (starts_with_minus text) (without_leading_sign text) p q h.1 k.1)
number_once text (Ok p) (Err r) h k = absurd (cc (h.0, k))
number_once text (Err r) (Ok q) h k = absurd (cc (h, k.0))
number_once text (Err r) (Err s) h k =
    let same : r ≡ s = cc in
    ap Err (sym same)

-- ---- texts without white space

-- no byte is white space
abbrev has_no_space : List ℕ → Bool
has_no_space = list_all (λ byte. not (is_space byte))

trimmed_same : (text : List ℕ) → has_no_space text ≡ true → trimmed text ≡ text
trimmed_same text h =
    let last = length text - 1 in
    let none : (i : ℕ) → i < length text → is_space (get_or text i 0) ≡ false =
    λ i k. no_from_not _ (AllPass-from_list_all (λ byte. not (is_space byte)) text h i 0 k) in
    let start : prefix_len is_space text ≡ 0 =
    prefix_len_is is_space text 0 0 (omega arith) (λ k l. absurd (omega arith)) (λ l. none 0 l) in
    let end : suffix_len is_space text ≡ length text - length text =
    suffix_len_is is_space text (length text) 0 (omega arith) (λ k l m. absurd (omega arith))
    (λ l. none last (omega arith)) in
    let whole : length text - suffix_len is_space text ≡ length text = omega (arith, end) in
    ap (λ n. trimmed_end (drop n text)) start ∙ ap (λ n. take n text) whole ∙ take-length text

-- a byte of a number's text: a sign, a point or a decimal digit
digit_no_space : (c : ℕ) → is_ascii_digit c ≡ true → not (is_space c) ≡ true
digit_no_space c h = grind (arith, nat_tests)

digits_no_space : (xs : List ℕ) → list_all is_ascii_digit xs ≡ true → has_no_space xs ≡ true
digits_no_space [] h = refl
digits_no_space (c ∷ cs) h =
    let both = and_parts _ _ h in
    and_from (not (is_space c)) (has_no_space cs) (digit_no_space c both.0) (digits_no_space cs both.1)

append_no_space : (xs ys : List ℕ) → has_no_space xs ≡ true → has_no_space ys ≡ true → has_no_space (xs ++ ys) ≡ true
append_no_space xs ys h k = list_all-append (λ byte. not (is_space byte)) xs ys ∙ and_from _ _ h k

fraction_no_space : (scale : ℕ) (ds : List ℕ) → has_no_space ds ≡ true
    → has_no_space (if scale == 0 then [] else 46 ∷ ds) ≡ true
fraction_no_space scale ds h = elim (eqb_tells scale 0) [
  | inl none ↦ rw none.0 refl
  | inr other ↦ rw other.0 h
]

sign_no_space : (negative : Bool) → has_no_space (sign_text negative) ≡ true
sign_no_space true = refl
sign_no_space false = refl

number_no_space : (p : Parts) → is_number p ≡ true → has_no_space (number_text p) ≡ true
number_no_space p h =
    let digits = (number_facts p h).digits in
    append_no_space (sign_text p.negative) (integer_text p ++ fraction_text p) (sign_no_space p.negative)
    (append_no_space (integer_text p) (fraction_text p) (digits_no_space (integer_text p) (integer_is_digits p digits).0)
    (fraction_no_space p.scale (decimals_text p)
    (digits_no_space (decimals_text p) (decimals_are_digits p digits).0)))

-- ---- texts that are no words

no_letter : (c w : ℕ) → c < 65 → 65 ≤ w → (to_ascii_lowercase c == w) ≡ false
no_letter c w h k = grind (arith, nat_tests)

-- a text that begins with a decimal digit, after a sign or without one
digit_no_word : (negative : Bool) (xs ys : List ℕ) → 0 < length xs → list_all is_ascii_digit xs ≡ true
    → (is_nan_text (sign_text negative ++ (xs ++ ys)) ≡ false) × (is_infinity_text (xs ++ ys) ≡ false)
digit_no_word negative [] ys some h = absurd (omega (arith, some))
digit_no_word negative (c ∷ cs) ys some h =
    let low : c < 65 = omega (arith, leb-true c 57 (and_parts _ _ (and_parts _ _ h).0).1) in
    let infinity : is_infinity_text (c ∷ (cs ++ ys)) ≡ false =
    rw (no_letter c 105 low (omega arith)) refl in
    (no_nan negative c (cs ++ ys) low, infinity)
  where
    no_nan : (negative : Bool) (c : ℕ) (cs : List ℕ) → c < 65 → is_nan_text (sign_text negative ++ (c ∷ cs)) ≡ false
    no_nan true c cs h = refl
    no_nan false c cs h = rw (no_letter c 110 h (omega arith)) refl

number_no_word : (p : Parts) → is_number p ≡ true → word_value (number_text p) ≡ None
number_no_word p h =
    let digits = (number_facts p h).digits in
    let integer = integer_is_digits p digits in
    let none = digit_no_word p.negative (integer_text p) (fraction_text p) integer.1 integer.0 in
    let rest : is_infinity_text (without_leading_sign (number_text p)) ≡ false =
    ap is_infinity_text (text_sign p digits).1 ∙ none.1 in
    rw (none.0, rest) refl

-- ---- values

no_word : (text rest : List ℕ) (v : Outcome Numeric) → trimmed text ≡ rest → word_value rest ≡ None
    → ParsesFinite rest v → ParsesNumeric text v
no_word text rest v e none h = rw (e, none) h

-- the fault of a number's text
pub fault_back : (text bytes rest unsigned : List ℕ) (negative : Bool) (word : Option Numeric) (fault : Option Refusal)
    → bytes ≡ text → rest ≡ trimmed bytes → word ≡ word_value rest → word ≡ None → negative ≡ starts_with_minus rest
    → unsigned ≡ without_leading_sign rest → IfSome fault (λ r. ReadsNumeral negative unsigned (Err r))
    → IfSome fault (λ r. ParsesNumeric text (Err r))
fault_back text bytes rest unsigned negative word None same t w none s u h = tt
fault_back text bytes rest unsigned negative word (Some r) same t w none s u h =
    no_word text rest (Err r) (sym (t ∙ ap trimmed same)) (sym w ∙ none)
    (subst (λ b. ReadsNumeral b (without_leading_sign rest) (Err r)) s
    (subst (λ xs. ReadsNumeral negative xs (Err r)) u h))

-- the text of a value is read as that value
pub value_back : (v : Numeric) → is_numeric v ≡ true → ParsesNumeric (numeric_text v) (Ok v)
value_back NaN h = refl
value_back Infinity h = refl
value_back NegativeInfinity h = refl
value_back (Finite p) h =
    let same = trimmed_same (number_text p) (number_no_space p h) in
    no_word (number_text p) (number_text p) (Ok (Finite p)) same (number_no_word p h) (p, refl, number_back p h)

finite_once : (text : List ℕ) (v w : Outcome Numeric) → ParsesFinite text v → ParsesFinite text w → w ≡ v
finite_once text (Ok v) (Ok w) h k =
    let same : Ok k.0 ≡ Ok h.0 = number_once text (Ok h.0) (Ok k.0) h.2 k.2 in
    let parts : k.0 ≡ h.0 = cc in
    ap Ok (k.1 ∙ ap Finite parts ∙ sym h.1)
finite_once text (Ok v) (Err r) h k = absurd (cc (number_once text (Ok h.0) (Err r) h.2 k))
finite_once text (Err r) (Ok w) h k = absurd (cc (number_once text (Err r) (Ok k.0) h k.2))
finite_once text (Err r) (Err s) h k =
    let same : Err s ≡ Err r = number_once text (Err r) (Err s) h k in
    let faults : s ≡ r = cc in
    ap Err faults

-- a text has one outcome
pub value_once : (text : List ℕ) (v w : Outcome Numeric) → ParsesNumeric text v → ParsesNumeric text w → w ≡ v
value_once text v w h k = once (word_value (trimmed text)) h k
  where
    once : (word : Option Numeric)
        → MatchOption word (ParsesFinite (trimmed text) v) (λ x. v ≡ Ok x)
        → MatchOption word (ParsesFinite (trimmed text) w) (λ x. w ≡ Ok x) → w ≡ v
    once None h k = finite_once (trimmed text) v w h k
    once (Some x) h k = k ∙ sym h
