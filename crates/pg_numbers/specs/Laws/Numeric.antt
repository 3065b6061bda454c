-- Laws of NUMERIC: a cell has at most one outcome, and a value is read back as itself.
use Rattle.std.specs.Prelude.{◌≡◌, ℕ, ◌*◌, ◌^◌, ◌<◌, ◌≤◌, ◌==◌, List, [], ◌∷◌, length, drop, Bool}
use Rattle.std.specs.Prelude.{true, false, Some, None, Ok, Err, refl, FitsSigned, if◌then◌else◌}
use Rattle.std.proofs.Common.{sym, ◌∙◌, ap, arith}
use Rattle.std.proofs.lemmas.Bool.{and_parts, eq-eqb, eqb-true, le-leb, leb-true, ltb-true}
use Rattle.std.proofs.lemmas.Bool.Decides.{Decides-int_eq}
use Rattle.std.proofs.lemmas.Nat.{from_be_bytes-to_be_bytes_2}
use Rattle.std.specs.Cmp.{booleans_Decides}
use Rattle.std.specs.Cmp.Lexicographic.{bytes_decides}
use Rattle.std.specs.Int.{w16, to_be_bytes, from_be_bytes}
use Rattle.pg_base.proofs.FormatLaws.{be-back, has_fitted}
use Rattle.pg_base.specs.Formats.{IsGrammar}
use Rattle.pg_types.specs.Faults.{Refusal}
use Rattle.pg_read.specs.Reading.{ReadsSingle}
use Rattle.pg_read.specs.Laws.Reading.{plain_single}
use Rattle.postgres_types.specs.Laws.Plain.{plain_lawful}
use Rattle.postgres_types.specs.ReadingBack.{BackKept, IsLawful, WrittenAsBytes}
use Rattle.pg_numbers.specs.Numeric.{invalid_digit}
use Rattle.pg_numbers.specs.Numeric.{Parts, are_digits, base, canonical, is_number, max_digits, max_scale, parts}
use Rattle.pg_numbers.specs.Numeric.{same_parts}
use Rattle.pg_numbers.specs.NumericCells.{FormNumeric, ReadsNumeric, digit_bytes, digits_in, first_fault_numeric}
use Rattle.pg_numbers.specs.NumericCells.{head_len, number_bytes, numbers_in, sign_of, stated}
use Rattle.pg_numbers.specs.NumericCells.{count_in, is_sign, negative_sign, scale_in, sign_in, value_of, weight_in}
use Rattle.pg_numbers.specs.NumericCells.{wire_numeric}
use Rattle.pg_numbers.specs.declared.numeric.Numeric.{Numeric}
use Rattle.pg_numbers.specs.declared.numeric.Numeric.TheVariants.{NaN, Infinity, NegativeInfinity, Finite}

-- ---- checks
-- the fault of bytes that pass all checks but that of the digits
pub checks_of : (b : List ℕ) → head_len ≤ length b → is_sign (sign_in b) ≡ true → scale_in b ≤ max_scale
    → length (drop head_len b) ≡ 2 * count_in b
    → first_fault_numeric b ≡ (if are_digits (digits_in b) then None else Some invalid_digit)
checks_of b long sign scale whole =
    rw (
      le-leb head_len (length b) long,
      sign,
      le-leb (scale_in b) max_scale scale,
      eq-eqb (length (drop head_len b)) (2 * count_in b) whole,
    ) refl

-- bytes that pass each check have no fault
pub passes_checks : (b : List ℕ) → head_len ≤ length b → is_sign (sign_in b) ≡ true → scale_in b ≤ max_scale
    → length (drop head_len b) ≡ 2 * count_in b → are_digits (digits_in b) ≡ true → first_fault_numeric b ≡ None
passes_checks b long sign scale whole digits = checks_of b long sign scale whole ∙ rw digits refl

-- two bytes for each digit
pub digit_bytes_length : (digits : List ℕ) → length (digit_bytes digits) ≡ 2 * length digits
digit_bytes_length [] = refl
digit_bytes_length (d ∷ ds) = omega (arith, digit_bytes_length ds)

-- ---- reading
-- bytes have one value or one fault
pub numeric_grammar : IsGrammar (λ v w. v ≡ w) FormNumeric first_fault_numeric
numeric_grammar = record { passes = λ b v h. h.0; single = λ b v w h k. h.1 ∙ sym k.1 }

-- a cell has at most one outcome
pub numeric_single : ReadsSingle (λ v w. v ≡ w) ReadsNumeric
numeric_single = plain_single (λ v w. v ≡ w) FormNumeric first_fault_numeric numeric_grammar

-- ---- what is known of the parts of a number
pub record IsNumber (p : Parts) : Type 0 where
  pub itself : canonical p ≡ p
  pub weight : FitsSigned w16 p.weight
  pub scale : p.scale ≤ max_scale
  pub digits : are_digits p.digits ≡ true
  pub count : length p.digits ≤ max_digits

equal_parts : (p q : Parts) → same_parts p q ≡ true → p ≡ q
equal_parts p q h =
    let last = and_parts _ _ h in
    let third = and_parts _ _ last.0 in
    let both = and_parts _ _ third.0 in
    ap (λ b. parts b p.weight p.scale p.digits) ((booleans_Decides p.negative q.negative).0 both.0)
    ∙ ap (λ z. parts q.negative z p.scale p.digits) ((Decides-int_eq p.weight q.weight).0 both.1)
    ∙ ap (λ n. parts q.negative q.weight n p.digits) (eqb-true p.scale q.scale third.1)
    ∙ ap (parts q.negative q.weight q.scale) ((bytes_decides p.digits q.digits).0 last.1)

pub number_facts : (p : Parts) → is_number p ≡ true → IsNumber p
number_facts p h =
    let last = and_parts _ _ h in
    let fourth = and_parts _ _ last.0 in
    let third = and_parts _ _ fourth.0 in
    let both = and_parts _ _ third.0 in
    record {
      itself = equal_parts (canonical p) p both.0;
      weight = has_fitted w16 p.weight both.1;
      scale = leb-true p.scale max_scale third.1;
      digits = fourth.1;
      count = leb-true (length p.digits) max_digits last.1;
    }

-- ---- a number is read back

-- the digits are those that their bytes spell
numbers_back : (digits : List ℕ) → are_digits digits ≡ true → numbers_in (digit_bytes digits) ≡ digits
numbers_back [] h = refl
numbers_back (d ∷ ds) h =
    let both = and_parts _ _ h in
    let first : from_be_bytes w16 (to_be_bytes w16 d) ≡ d =
    from_be_bytes-to_be_bytes_2 d (omega (arith, ltb-true d base both.0)) in
    ap (λ n. n ∷ numbers_in (digit_bytes ds)) first ∙ ap (λ ns. d ∷ ns) (numbers_back ds both.1)

sign_fits : (negative : Bool) → sign_of negative < 2 ^ 16
sign_fits true = omega arith
sign_fits false = omega arith

sign_is_one : (negative : Bool) → is_sign (sign_of negative) ≡ true
sign_is_one true = refl
sign_is_one false = refl

sign_value : (negative : Bool) (p : Parts) → value_of (sign_of negative) p ≡ Finite (canonical p)
sign_value true p = refl
sign_value false p = refl

sign_negative : (negative : Bool) → (sign_of negative == negative_sign) ≡ negative
sign_negative true = refl
sign_negative false = refl

-- the bytes of a number are a cell of it
number_spelled : (p : Parts) → IsNumber p → FormNumeric (number_bytes p) (Finite p)
number_spelled p h =
    let b = number_bytes p in
    let count : count_in b ≡ length p.digits =
    from_be_bytes-to_be_bytes_2 (length p.digits) (omega (arith, h.count)) in
    let weight : weight_in b ≡ p.weight = be-back w16 from_be_bytes-to_be_bytes_2 p.weight h.weight in
    let sign : sign_in b ≡ sign_of p.negative =
    from_be_bytes-to_be_bytes_2 (sign_of p.negative) (sign_fits p.negative) in
    let scale : scale_in b ≡ p.scale = from_be_bytes-to_be_bytes_2 p.scale (omega (arith, h.scale)) in
    let digits : digits_in b ≡ p.digits = numbers_back p.digits h.digits in
    let many : length (drop head_len b) ≡ 2 * length p.digits = digit_bytes_length p.digits in
    let same : stated b ≡ p =
    ap (λ n. parts (n == negative_sign) (weight_in b) (scale_in b) (digits_in b)) sign
    ∙ ap (λ t. parts t (weight_in b) (scale_in b) (digits_in b)) (sign_negative p.negative)
    ∙ ap (λ z. parts p.negative z (scale_in b) (digits_in b)) weight
    ∙ ap (λ n. parts p.negative p.weight n (digits_in b)) scale ∙ ap (parts p.negative p.weight p.scale) digits in (
      passes_checks b (omega (arith, many)) (ap is_sign sign ∙ sign_is_one p.negative) (omega (arith, scale, h.scale))
          (many ∙ ap (λ n. 2 * n) (sym count)) (ap are_digits digits ∙ h.digits),
      ap Finite (sym h.itself ∙ ap canonical (sym same)) ∙ sym (sign_value p.negative (stated b))
          ∙ ap (λ n. value_of n (stated b)) (sym sign),
    )

-- a value is written as bytes that read as it
written_if : (v : Numeric) (t : Bool) (b : List ℕ) (r : Refusal) → (t ≡ true → FormNumeric b v)
    → WrittenAsBytes ReadsNumeric v (if t then Ok (Some b) else Err r)
written_if v true b r h = h refl
written_if v false b r h = tt

numeric_written : (v : Numeric) → WrittenAsBytes ReadsNumeric v (wire_numeric v)
numeric_written NaN = (refl, refl)
numeric_written Infinity = (refl, refl)
numeric_written NegativeInfinity = (refl, refl)
numeric_written (Finite p) =
    written_if (Finite p) (is_number p) (number_bytes p) _ (λ h. number_spelled p (number_facts p h))

-- so it is read back as itself
pub numeric_lawful : IsLawful (λ v w. v ≡ w) ReadsNumeric wire_numeric (BackKept (λ v w. v ≡ w))
numeric_lawful = plain_lawful (λ v. v) FormNumeric first_fault_numeric numeric_grammar wire_numeric numeric_written
