-- Lemmas on the halves of log sequence numbers.
use Rattle.std.proofs.Common.{◌≡◌, ℕ, zero, suc, ◌+◌, ◌-◌, ◌/◌, ◌%◌, ◌^◌, ◌<◌, ◌≤◌, ◌==◌, List, [], ◌∷◌, ◌++◌, length}
use Rattle.std.proofs.Common.{Bool, true, false, refl, ap, ◌∙◌, arith, tests}
use Rattle.std.specs.Char.{digit_value}
use Rattle.std.specs.Fmt.{digit_glyph, digits, digits_onto}
use Rattle.std.specs.List.{after_first, before_first, position_or_len}
use Rattle.std.specs.Str.Parse.{AllDigits, IsNumeral, without_leading_plus}
use Rattle.std.proofs.Math.Seq.{take-append_seam, drop-append-add}
use Rattle.std.proofs.lemmas.Bool.{eqb-true}
use Rattle.std.proofs.lemmas.Fmt.{digits_is_IsNumeral}
use Rattle.pg_base.specs.Lsn.{lsn_text, slash}
use Rattle.pg_text.proofs.HexDigits.{onto_first, onto_more, onto_nothing}
use Rattle.pg_text.specs.Small.{is_half}

abbrev is_slash : ℕ → Bool
is_slash c = c == slash

-- a number below 16^k has at most k digits
onto_short : (k i n : ℕ) (acc : List ℕ) → 0 < k → k ≤ i → n < 16 ^ k
    → length (digits_onto i 16 true n acc) ≤ k + length acc
onto_short zero i n acc some within small = absurd (omega arith)
onto_short (suc zero) i n acc some within small =
    let one : n / 16 ≡ 0 = omega arith in
    omega (arith, ap length (onto_first true n acc i (omega arith) one))
onto_short (suc (suc k)) i n acc some within small =
    by (n / 16) refl (onto_short (suc k) (i - 1) (n / 16) (digit_glyph true (n % 16) ∷ acc) (omega arith) (omega arith)
    (omega arith))
  where
    by : (q : ℕ) → n / 16 ≡ q
        → length (digits_onto (i - 1) 16 true (n / 16) (digit_glyph true (n % 16) ∷ acc)) ≤ suc k + suc (length acc)
        → length (digits_onto i 16 true n acc) ≤ suc (suc k) + length acc
    by zero e rest = omega (arith, ap length (onto_first true n acc i (omega arith) e))
    by (suc q) e rest = omega (arith, rest, ap length (onto_more true n acc i (omega arith) (λ none. omega arith)))

digits_short : (n : ℕ) → n < 2 ^ 32 → length (digits 16 true n) ≤ 8
digits_short n small = omega (arith, onto_short 8 64 n [] (omega arith) (omega arith) (omega arith), ap length (onto_nothing true n))

other_than : (b c : ℕ) (t : Bool) → (c == b) ≡ t → digit_value c < 16 → (digit_value b < 16 → ⊥) → (c == b) ≡ false
other_than b c true e h digitless = absurd (digitless (rw (← eqb-true c b e) h))
other_than b c false e h digitless = e

position_of_slash : (a b : List ℕ) → AllDigits 16 a → position_or_len is_slash (a ++ (slash ∷ b)) ≡ length a
position_of_slash [] b h = refl
position_of_slash (c ∷ cs) b h =
    rw (other_than slash c _ refl h.0 (λ bad. omega (arith, bad)), position_of_slash cs b h.1) (omega arith)

unsigned : (a : List ℕ) → AllDigits 16 a → without_leading_plus a ≡ a
unsigned [] h = refl
unsigned (c ∷ cs) h = rw (other_than 43 c _ refl h.0 (λ bad. omega (arith, bad))) refl

own_half : (n : ℕ) → n < 2 ^ 32 → AllDigits 16 (digits 16 true n) × (is_half (digits 16 true n) ≡ true)
own_half n small =
    let own = (digits_is_IsNumeral 16 true (omega arith) (omega arith) n (omega arith)).0.1 in
    (own, half (digits 16 true n) (digits_short n small) (ap length (unsigned (digits 16 true n) own)))
  where
    half : (text : List ℕ) → length text ≤ 8 → length (without_leading_plus text) ≡ length text → is_half text ≡ true
    half text short plain = search (tests, arith)

-- both halves of a text have at most eight digits
pub lsn_halves : (n : ℕ) → n < 2 ^ 64
    → (is_half (before_first is_slash (lsn_text n)) ≡ true) × (is_half (after_first is_slash (lsn_text n)) ≡ true)
lsn_halves n small =
    let high = own_half (n / 2 ^ 32) (omega arith) in
    let low = own_half (n % 2 ^ 32) (omega arith) in
    let a = digits 16 true (n / 2 ^ 32) in
    let b = digits 16 true (n % 2 ^ 32) in
    let place = position_of_slash a b high.0 in
    let before : before_first is_slash (lsn_text n) ≡ a = rw place (take-append_seam a (slash ∷ b)) in
    let after : after_first is_slash (lsn_text n) ≡ b = rw place (drop-append-add a (slash ∷ b) 1) in
    (ap is_half before ∙ high.1, ap is_half after ∙ low.1)
