-- Lemmas on the texts of log positions.
use Rattle.std.proofs.Common.{◌≡◌, ℕ, ◌*◌, ◌/◌, ◌%◌, ◌^◌, ◌<◌, ◌==◌, List, [], ◌∷◌, ◌++◌, length, Bool, true, false}
use Rattle.std.proofs.Common.{Option, Some, None, Result, Ok, Err, option_map, option_and_then, refl, ◌∙◌, ap}
use Rattle.std.proofs.Common.{arith}
use Rattle.std.specs.Char.{digit_value, is_digit}
use Rattle.std.specs.Fmt.{digits}
use Rattle.std.specs.List.{list_all, position_or_len, before_first, after_first}
use Rattle.std.specs.Result.{result_ok}
use Rattle.std.specs.Str.Parse.{AllDigits, IsNumeral, ParsesUnsigned, digits_value, without_leading_plus}
use Rattle.std.proofs.Math.Seq.{take-append_seam, drop-append-add}
use Rattle.std.proofs.lemmas.Bool.{eqb-true, ltb-true, lt-ltb, and_parts, and_from}
use Rattle.std.proofs.lemmas.Fmt.{digits_is_IsNumeral}
use Rattle.std.proofs.lemmas.List.{drop_all}
use Rattle.std.proofs.lemmas.Nat.{or_shifted}
use Rattle.pg_base.specs.Lsn.{slash, is_hex_number, half_of, position_of, lsn_of, lsn_text}

abbrev is_slash : ℕ → Bool
is_slash c = c == slash

digits_from_all : (s : List ℕ) → list_all (λ c. is_digit c 16) s ≡ true → AllDigits 16 s
digits_from_all [] h = tt
digits_from_all (c ∷ cs) h =
    let both = and_parts (is_digit c 16) (list_all (λ c. is_digit c 16) cs) h in
    (ltb-true (digit_value c) 16 both.0, digits_from_all cs both.1)

all_from_digits : (s : List ℕ) → AllDigits 16 s → list_all (λ c. is_digit c 16) s ≡ true
all_from_digits [] h = refl
all_from_digits (c ∷ cs) h = and_from _ _ (lt-ltb (digit_value c) 16 h.0) (all_from_digits cs h.1)

hex_from_numeral : (s : List ℕ) → IsNumeral 16 s → digits_value 16 s < 2 ^ 64 → is_hex_number s ≡ true
hex_from_numeral s h small = and_from _ _ (and_from _ _ (lt-ltb 0 (length s) h.0) (all_from_digits s h.1))
    (lt-ltb (digits_value 16 s) (2 ^ 64) small)

numeral_from_hex : (s : List ℕ) → is_hex_number s ≡ true → IsNumeral 16 s × (digits_value 16 s < 2 ^ 64)
numeral_from_hex s h =
    let both = and_parts _ _ h in
    let first = and_parts _ _ both.0 in
    ((ltb-true 0 (length s) first.0, digits_from_all s first.1), ltb-true (digits_value 16 s) (2 ^ 64) both.1)

refused_half : (s : List ℕ) (t : Bool) → is_hex_number s ≡ t → (IsNumeral 16 s × (digits_value 16 s < 2 ^ 64) → ⊥)
    → is_hex_number s ≡ false
refused_half s true e h = absurd (h (numeral_from_hex s e))
refused_half s false e h = e

-- `from_str_radix` reads the number of a half
pub half_from_parse : {E : Type 0} (s : List ℕ) (r : Result ℕ E) → ParsesUnsigned 64 16 s r → result_ok r ≡ half_of s
half_from_parse s (Ok n) h = rw (hex_from_numeral (without_leading_plus s) h.0.0 h.0.1) (ap Some h.1)
half_from_parse s (Err e) h = rw (refused_half (without_leading_plus s) _ refl h) refl

no_second : (hi : Option ℕ) → option_and_then (λ h. option_map (position_of h) None) hi ≡ None
no_second None = refl
no_second (Some h) = refl

-- a text without a slash names no position, since nothing stands after one
pub no_slash : (s : List ℕ) → position_or_len is_slash s ≡ length s → lsn_of s ≡ None
no_slash s e =
    let no_rest : after_first is_slash s ≡ [] = drop_all _ s (omega arith) in
    rw no_rest (no_second (half_of (before_first is_slash s)))

other_than : (b c : ℕ) (t : Bool) → (c == b) ≡ t → digit_value c < 16 → (digit_value b < 16 → ⊥) → (c == b) ≡ false
other_than b c true e h digitless = absurd (digitless (rw (← eqb-true c b e) h))
other_than b c false e h digitless = e

slash_is_no_digit : (c : ℕ) → digit_value c < 16 → is_slash c ≡ false
slash_is_no_digit c h = other_than slash c _ refl h (λ bad. omega (arith, bad))

plus_is_no_digit : (c : ℕ) → digit_value c < 16 → (c == 43) ≡ false
plus_is_no_digit c h = other_than 43 c _ refl h (λ bad. omega (arith, bad))

-- digits stand before a slash
position_of_slash : (a b : List ℕ) → AllDigits 16 a → position_or_len is_slash (a ++ (slash ∷ b)) ≡ length a
position_of_slash [] b h = refl
position_of_slash (c ∷ cs) b h = rw (slash_is_no_digit c h.0, position_of_slash cs b h.1) (omega arith)

before_slash : (a b : List ℕ) → AllDigits 16 a → before_first is_slash (a ++ (slash ∷ b)) ≡ a
before_slash a b h = rw (position_of_slash a b h) (take-append_seam a (slash ∷ b))

after_slash : (a b : List ℕ) → AllDigits 16 a → after_first is_slash (a ++ (slash ∷ b)) ≡ b
after_slash a b h = rw (position_of_slash a b h) (drop-append-add a (slash ∷ b) 1)

plain_digits : (a : List ℕ) → IsNumeral 16 a → without_leading_plus a ≡ a
plain_digits [] h = refl
plain_digits (c ∷ cs) h = rw (plus_is_no_digit c h.1.0) refl

-- a half's own digits name it
half_of_digits : (n : ℕ) → n < 2 ^ 64 → IsNumeral 16 (digits 16 true n) × (half_of (digits 16 true n) ≡ Some n)
half_of_digits n small =
    let own = digits_is_IsNumeral 16 true (omega arith) (omega arith) n (omega arith) in
    (own.0, rw (plain_digits _ own.0, hex_from_numeral _ own.0 (rw own.1 small)) (ap Some own.1))

concat_halves : (n : ℕ) → n < 2 ^ 64 → position_of (n / 2 ^ 32) (n % 2 ^ 32) ≡ n
concat_halves n small =
    let fits : n / 2 ^ 32 * 2 ^ 32 % 2 ^ 64 ≡ n / 2 ^ 32 * 2 ^ 32 = omega arith in
    rw fits (or_shifted (n / 2 ^ 32) 32 (n % 2 ^ 32) (omega arith) ∙ omega arith)

-- a position's text is parsed to the position
pub text_parses : (n : ℕ) → n < 2 ^ 64 → lsn_of (lsn_text n) ≡ Some n
text_parses n small =
    let hi = half_of_digits (n / 2 ^ 32) (omega arith) in
    let lo = half_of_digits (n % 2 ^ 32) (omega arith) in
    rw (
      before_slash _ (digits 16 true (n % 2 ^ 32)) hi.0.1,
      after_slash _
          (digits 16 true (n % 2 ^ 32)) hi.0.1,
      hi.1,
      lo.1,
    ) (ap Some (concat_halves n small))
