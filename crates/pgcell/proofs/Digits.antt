-- Lemmas on the digits of an OID.
use Rattle.std.proofs.Common.{◌≡◌, ◌≢◌, ◌<◌, ◌≤◌, ◌^◌, ◌&&◌, ℕ, List, [], ◌∷◌, nat_eq, ◌∙◌, length, Bool, true}
use Rattle.std.proofs.Common.{false, Option, Some, None, Result, Ok, Err, get_or, nat_lt, IsUtf8, if◌then◌else◌}
use Rattle.std.proofs.Common.{arith, refl, sym, subst}
use Rattle.std.specs.List.{starts_with}
use Rattle.std.specs.Result.{OkIff, result_ok}
use Rattle.std.specs.Str.{all_ascii_digits}
use Rattle.std.specs.Str.Parse.{AllDigits, IsNumeral, ParsesUnsigned, digits_value}
use Rattle.std.proofs.lemmas.Bool.{eq-eqb, ltb-true, lt-ltb}
use Rattle.std.proofs.lemmas.Str.Parse.{numerals_by_value, tells_all_ascii_digits, without_leading_plus_none}
use Rattle.std.proofs.lemmas.Fmt.{IsAscii-from_digits}
use Rattle.std.proofs.lemmas.Str.{IsUtf8-from_ascii}
use Rattle.pgcell.specs.Request.{oid_of_word}

digits_all : (word : List ℕ) → all_ascii_digits word ≡ true → AllDigits 10 word
digits_all = (numerals_by_value (λ ds. all_ascii_digits ds ≡ true) tells_all_ascii_digits).to

all_digits : (word : List ℕ) → AllDigits 10 word → all_ascii_digits word ≡ true
all_digits = (numerals_by_value (λ ds. all_ascii_digits ds ≡ true) tells_all_ascii_digits).from

abbrev IsOid : List ℕ → Type 0
IsOid word = IsNumeral 10 word × (digits_value 10 word < 2 ^ 32)

-- by the four tests: digits alone, one of them, at most ten, a number that an OID holds
abbrev oid_by : List ℕ → Bool → Bool → Bool → Bool → Option ℕ
oid_by word d z l b = if d && (z && (l && b)) then Some (digits_value 10 word) else None

no_oid : (word : List ℕ) (d z l b : Bool) → (d ≡ true → z ≡ true → l ≡ true → b ≡ true → ⊥) → None ≡ oid_by word d z l b
no_oid word false z l b h = refl
no_oid word true false l b h = refl
no_oid word true true false b h = refl
no_oid word true true true false h = refl
no_oid word true true true true h = absurd (h refl refl refl refl)

an_oid : (word : List ℕ) (d z l b : Bool) → d ≡ true → z ≡ true → l ≡ true → b ≡ true → Some (digits_value 10 word)
    ≡ oid_by word d z l b
an_oid word d z l b e f g h = rw (e, f, g, h) refl

-- what is refused
none : (word : List ℕ) → (all_ascii_digits word ≡ true → 0 < length word → length word < 11
    → digits_value 10 word < 2 ^ 32 → ⊥) → None ≡ oid_of_word word
none word h =
    no_oid word (all_ascii_digits word) (nat_lt 0 (length word)) (nat_lt (length word) 11)
    (nat_lt (digits_value 10 word) (2 ^ 32))
    (λ e f g i. h e (ltb-true _ _ f) (ltb-true _ _ g) (ltb-true _ _ i))

no_plus : (word : List ℕ) → starts_with nat_eq word (43 ∷ []) ≡ false → get_or word 0 0 ≢ 43
no_plus [] h e = omega arith
no_plus (byte ∷ bytes) h e = let bad : true ≡ false = sym (rw (eq-eqb 43 byte (sym e)) refl) ∙ h in cc

pub other_none : (word : List ℕ) → ¬ (IsUtf8 word) → None ≡ oid_of_word word
other_none word bad =
    none word (λ e f g i. bad (IsUtf8-from_ascii word (IsAscii-from_digits word (digits_all word e))))

parsed : {E : Type 0} (word : List ℕ) (r : Result ℕ E) → length word ≤ 10 → OkIff r (IsOid word) (digits_value 10 word)
    → result_ok r ≡ oid_of_word word
parsed word (Ok n) short h =
    subst (λ m. Some m ≡ oid_of_word word) (sym h.1)
    (an_oid word _ _ _ _ (all_digits word h.0.0.1) (lt-ltb _ _ h.0.0.0) (lt-ltb _ _ (omega arith)) (lt-ltb _ _ h.0.1))
parsed word (Err e) short h = none word (λ d f g i. h ((f, digits_all word d), i))

-- what parsing gives, where no plus stands first
pub oid_parsed : {E : Type 0} (word : List ℕ) (r : Result ℕ E) → length word ≤ 10 → starts_with nat_eq word (43 ∷ [])
    ≡ false → ParsesUnsigned 32 10 word r → result_ok r ≡ oid_of_word word
oid_parsed word r short sign h =
    parsed word r short (subst (λ ds. OkIff r (IsOid ds) (digits_value 10 ds))
    (without_leading_plus_none word (no_plus word sign)) h)
