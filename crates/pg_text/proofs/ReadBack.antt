-- Proofs of the laws of texts.
use Rattle.std.proofs.Common.{◌≡◌, ℕ, suc, ◌<◌, ◌*◌, ◌^◌, ◌==◌, List, [], ◌∷◌, Bool, true, false, Ok, Some}
use Rattle.std.proofs.Common.{length, refl, ap, subst, sym, ◌∙◌, ◌≤◌, arith, inl, ⊎_elim}
use Rattle.std.proofs.Common.{map}
use Rattle.std.specs.Fmt.{decimal, signed_decimal}
use Rattle.std.specs.Prelude.{ℤ, pos, negsuc, codes, FitsSigned, IsFalse, T, from_bits, is_nan, not, option_map, to_bits}
use Rattle.std.specs.Float.{Format, binary32, binary64}
use Rattle.std.specs.Int.{Width, w16, w32, w64}
use lib.Ieee.{top}
use lib.Ieee.Bits.{to_bits-of_bits}
use lib.Signed.{mag}
use Rattle.std.specs.Str.Parse.{IsNumeral, starts_with_minus}
use Rattle.std.specs.Str.Parse.{without_leading_plus}
use Rattle.std.specs.Prelude.{◌↔◌, Err, IfSome, MatchOption, None, Ok, Option}
use Rattle.hex.specs.Hex.{IsBytes, encode_lower}
use Rattle.hex.proofs.HexLemmas.{decode_of-encode_lower, decode_of-same}
use Rattle.std.proofs.lemmas.Bool.{ne_eqb}
use Rattle.std.proofs.lemmas.List.{append_cancel_left}
use Rattle.std.proofs.lemmas.Fmt.{decimal_is_IsNumeral}
use Rattle.std.proofs.lemmas.Str.Parse.{digit_from_value}
use Rattle.postgres_types.specs.Lsn.{lsn_text}
use Rattle.pg_text.proofs.EscapedBytes.{not_escaped}
use Rattle.pg_text.proofs.Lsn.{lsn_halves}
use Rattle.pg_text.specs.Small.{SaysLsn, SaysUuid}
use Rattle.pg_base.proofs.LsnLemmas.{text_parses}
use Rattle.std.specs.List.{All, AllZip}
use Rattle.pg_text.specs.Lists.{SaysVector, vector_text}
use Rattle.uuid.proofs.RoundTrips.{parses_hyphenated}
use Rattle.uuid.proofs.TextLemmas.{by_index_length}
use Rattle.uuid.specs.Text.{hyphenated_text, lower, parsed}
use Rattle.std.specs.Option.{option_or}
use Rattle.pg_numbers.specs.FloatTexts.{float_of}
use Rattle.pg_text.specs.Floats.{SaysFloat, ShowsFloat, number_of}
use Rattle.pg_text.specs.Numerics.{SaysNumeric}
use Rattle.pg_text.specs.ReadBack.{IsReadBack}
use Rattle.pg_text.specs.Spaces.{Plain, Trimmed, trimmed}
use Rattle.pg_text.proofs.Visible.{decimal_visible, signed_visible, trimmed_same}
use Rattle.pg_numbers.proofs.ValueTexts.{value_back, value_once}
use Rattle.pg_numbers.specs.NumericCells.{is_numeric}
use Rattle.pg_numbers.specs.NumericTexts.{ParsesNumeric, numeric_text}
use Rattle.pg_base.specs.Bits.{bit_digit, bits_text}
use Rattle.pg_base.specs.NumberTexts.{SaysSigned, SaysUnsigned}
use Rattle.pg_text.specs.Texts.{SaysAny, SaysBytes, SaysEscaped, Shows, bytes_text}
use Rattle.pg_types.specs.Faults.{Refusal}

-- INT2, INT4, INT8, OID

-- digits have no sign before them
plain_digits : (ds : List ℕ) → IsNumeral 10 ds → (starts_with_minus ds ≡ false) × (without_leading_plus ds ≡ ds)
plain_digits [] h = absurd (omega arith)
plain_digits (c ∷ cs) h =
    let digit = digit_from_value c h.1.0 in
    let minus : (c == 45) ≡ false = ne_eqb c 45 (λ e. omega arith) in
    let plus : (c == 43) ≡ false = ne_eqb c 43 (λ e. omega arith) in
    (minus, rw plus refl)

signed_says : (z : ℤ) → mag z < 2 ^ 63 → SaysSigned (signed_decimal z) z
signed_says (pos n) small =
    let own = decimal_is_IsNumeral n (omega arith) in
    let bare = plain_digits (decimal n) own.0 in
    (rw (bare.0, bare.1) own.0, rw (bare.0, bare.1) (ap pos (sym own.1)))
signed_says (negsuc n) small =
    let own = decimal_is_IsNumeral (suc n) (omega arith) in
    (own.0, rw own.1 refl)

signed_back : (w : Width) → ((z : ℤ) → FitsSigned w z → mag z < 2 ^ 63)
    → IsReadBack (FitsSigned w) (Shows signed_decimal) (Trimmed SaysSigned)
signed_back w small v text fits e =
    let own = trimmed_same (signed_decimal v) (signed_visible v (small v fits)) in
    let says : Trimmed SaysSigned text v = rw (e, own) (signed_says v (small v fits)) in
    (says, λ u s. s.1 ∙ sym says.1)

pub int2_back : IsReadBack (FitsSigned w16) (Shows signed_decimal) (Trimmed SaysSigned)
int2_back = signed_back w16 (λ z fits. omega (arith, fits.sfits))

pub int4_back : IsReadBack (FitsSigned w32) (Shows signed_decimal) (Trimmed SaysSigned)
int4_back = signed_back w32 (λ z fits. omega (arith, fits.sfits))

pub int8_back : IsReadBack (FitsSigned w64) (Shows signed_decimal) (Trimmed SaysSigned)
int8_back = signed_back w64 (λ z fits. omega (arith, fits.sfits))

unsigned_says : (n : ℕ) → n < 2 ^ 32 → SaysUnsigned (decimal n) n
unsigned_says n small =
    let own = decimal_is_IsNumeral n (omega arith) in
    let bare = plain_digits (decimal n) own.0 in
    rw bare.1 (own.0, sym own.1)

pub unsigned_back : IsReadBack (λ (n : ℕ). n < 2 ^ 32) (Shows decimal) (Trimmed SaysUnsigned)
unsigned_back n text small e =
    let own = trimmed_same (decimal n) (decimal_visible n (omega arith)) in
    let says : Trimmed SaysUnsigned text n = rw (e, own) (unsigned_says n small) in
    (says, λ u s. s.1 ∙ sym says.1)

-- FLOAT4, FLOAT8

no_nan : (b : Bool) → IsFalse b → T (not b)
no_nan true p = cc
no_nan false p = tt

first_found : {A : Type 0} (first other : Option A) (x : A) → first ≡ Some x → option_or first other ≡ Some x
first_found None other x e = absurd (cc)
first_found (Some y) other x e = e

float_back : (f : Format) → IsReadBack (λ (bits : ℕ). (bits < 2 * top f) × IsFalse (is_nan (from_bits f bits)))
    (ShowsFloat f) (SaysFloat f)
float_back f bits text p h =
    let same : Some (to_bits f (from_bits f bits)) ≡ Some bits =
    ap (λ n. Some n) (to_bits-of_bits f bits p.0 (no_nan (is_nan (from_bits f bits)) p.1)) in
    let text_is : text ≡ h.0 = h.3 in
    let read : number_of f text ≡ Some (from_bits f bits) =
    ap (number_of f) text_is ∙ first_found (float_of f h.0) (float_of f (trimmed h.0)) (from_bits f bits) h.1 in
    let says : SaysFloat f text bits = ap (option_map (to_bits f)) read ∙ same in
    (says, λ u s. let both : Some u ≡ Some bits = sym s ∙ says in cc)

pub float4_back : IsReadBack (λ (bits : ℕ). (bits < 2 ^ 32) × IsFalse (is_nan (from_bits binary32 bits)))
    (ShowsFloat binary32) (SaysFloat binary32)
float4_back = float_back binary32

pub float8_back : IsReadBack (λ (bits : ℕ). (bits < 2 ^ 64) × IsFalse (is_nan (from_bits binary64 bits)))
    (ShowsFloat binary64) (SaysFloat binary64)
float8_back = float_back binary64

-- NUMERIC

pub numeric_back : IsReadBack (λ v. is_numeric v ≡ true) (Shows numeric_text) SaysNumeric
numeric_back v text number shown =
    let says : SaysNumeric text v = rw shown (value_back v number) in
    (says, λ w other. let same : Ok w ≡ Ok v = value_once text (Ok v) (Ok w) says other in cc)

-- a text that says a number is refused with no fault but Memory
pub numeric_parsed : (text : List ℕ) (fault : Option Refusal) (P : Type 0) (Q : Refusal → Type 0)
    → SaysAny SaysNumeric text → IfSome fault (λ r. ParsesNumeric text (Err r)) → MatchOption fault P Q → P
numeric_parsed text None P Q says refused cases = cases
numeric_parsed text (Some r) P Q says refused cases =
    let both : Err r ≡ Ok says.0 = value_once text (Ok says.0) (Err r) says.1 refused in absurd cc

-- PG_LSN

pub lsn_back : IsReadBack (λ (n : ℕ). n < 2 ^ 64) (Shows lsn_text) SaysLsn
lsn_back n text small e =
    let halves = lsn_halves n small in
    let says : SaysLsn text n =
    subst (λ t. SaysLsn t n) (sym e) (text_parses n small, halves.0, halves.1) in
    (says, λ u s. let both : Some u ≡ Some n = sym s.0 ∙ says.0 in cc)

-- BIT, VARBIT

same_bit : (b c : Bool) → bit_digit b ≡ bit_digit c → b ≡ c
same_bit true true e = refl
same_bit false false e = refl
same_bit true false e = absurd (omega arith)
same_bit false true e = absurd (omega arith)

same_bits : (v w : List Bool) → bits_text v ≡ bits_text w → w ≡ v
same_bits [] [] e = refl
same_bits [] (c ∷ cs) e = absurd (cc)
same_bits (b ∷ bs) [] e = absurd (cc)
same_bits (b ∷ bs) (c ∷ cs) e =
    let here : bit_digit c ≡ bit_digit b = cc in
    let rest : bits_text bs ≡ bits_text cs = cc in
    λ t. same_bit c b here t ∷ same_bits bs cs rest t

pub bits_back : IsReadBack (λ (v : List Bool). Unit {0}) (Shows bits_text) (λ text v. text ≡ bits_text v)
bits_back v text p e = (e, λ w s. same_bits v w (sym e ∙ s))

-- UUID

pub uuid_back : IsReadBack (λ v. (length v ≡ 16) × All (λ b. b < 256) v) (Shows (hyphenated_text lower)) SaysUuid
uuid_back v text p e =
    let read : parsed text ≡ Some v = ap parsed e ∙ sym (parses_hyphenated lower v (inl refl) p.0 p.1) in
    let long : length (hyphenated_text lower v) ≡ 36 = by_index_length 36 _ in
    let short : length text ≤ 38 = omega (arith, ap length e) in
    ((read, short), λ u s. let both : Some u ≡ Some v = sym s.0 ∙ read in cc)

-- TEXT, BYTEA

pub bytes_back : (bytes text v : List ℕ) → IsBytes bytes → text ≡ bytes_text bytes → SaysBytes text v ↔ (v ≡ bytes)
bytes_back bytes text v small e =
    let own = decode_of-encode_lower bytes small in (
      λ says. ⊎_elim (λ s.
          let same : s.0 ≡ encode_lower bytes =
          append_cancel_left (codes "\\x") s.0 (encode_lower bytes) (sym s.1 ∙ e) in
          decode_of-same (encode_lower bytes) v bytes (rw same at s.2) own)
          (λ s. absurd (not_escaped (encode_lower bytes) v (subst (λ t. SaysEscaped t v) e s))) says,
      λ same. inl (encode_lower bytes, e, own ∙ ap (λ b. Ok b) (sym same)),
    )

-- INT2VECTOR, OIDVECTOR

each_says : {A : Type 0} (f : A → List ℕ) (says : List ℕ → A → Type 0) (P : A → Type 0)
    → ((x : A) → P x → says (f x) x) → (v : List A) → All P v → AllZip says (map f v) v
each_says f says P one [] h = tt
each_says f says P one (x ∷ xs) h =
    (one x (h 0 x (omega arith)), each_says f says P one xs (λ k d l. h (suc k) d (omega arith)))

oid_says : (n : ℕ) → n < 2 ^ 32 → Plain (Trimmed SaysUnsigned) (decimal n) n
oid_says n small = (trimmed_same (decimal n) (decimal_visible n (omega arith)), (unsigned_back n (decimal n) small refl).0)

int2_says : (z : ℤ) → FitsSigned w16 z → Plain (Trimmed SaysSigned) (signed_decimal z) z
int2_says z fits = (
  trimmed_same (signed_decimal z) (signed_visible z (omega (arith, fits.sfits))),
  (int2_back z (signed_decimal z) fits refl).0,
)

pub int2vector_says : (v : List ℤ) (text : List ℕ) → All (FitsSigned w16) v → text ≡ vector_text signed_decimal v
    → SaysVector (Plain (Trimmed SaysSigned)) text v
int2vector_says v text fit e =
    (map signed_decimal v, e, each_says signed_decimal (Plain (Trimmed SaysSigned)) (FitsSigned w16) int2_says v fit)

pub oidvector_says : (v : List ℕ) (text : List ℕ) → All (λ n. n < 2 ^ 32) v → text ≡ vector_text decimal v
    → SaysVector (Plain (Trimmed SaysUnsigned)) text v
oidvector_says v text fit e =
    (map decimal v, e, each_says decimal (Plain (Trimmed SaysUnsigned)) (λ n. n < 2 ^ 32) oid_says v fit)
