-- Lemmas on numbers that are read digit by digit.
use Rattle.std.proofs.Common.{◌≡◌, ℕ, zero, suc, ◌+◌, ◌-◌, ◌*◌, ◌<◌, ◌≤◌, List, [], ◌∷◌, ◌++◌, length, take}
use Rattle.std.proofs.Common.{drop, get_or, ap, sym, ◌∙◌}
use Rattle.std.proofs.Common.{add-one, arith, length-append, refl, subst}
use Rattle.std.specs.Prelude.{◌^◌, Err, MatchOption, Ok, Option, Result}
use Rattle.std.specs.Result.{OkIff, result_ok}
use Rattle.std.proofs.Math.Seq.{take-append_seam}
use Rattle.std.specs.Char.{digit_value}
use Rattle.std.specs.Int.{IsInRange}
use Rattle.std.specs.Str.Parse.{AllDigits, digits_value, digits_value_after}
use Rattle.std.proofs.lemmas.Int.Digits.{digits_value_more}
use Rattle.std.proofs.lemmas.List.{length-take-le, take-append-drop}
use Rattle.std.proofs.lemmas.Str.{digit_value_digit}
use Rattle.pg_text.specs.Scans.{EndsDigits, NoNumber, TakesDigits, TakesNumber}

one_more : (text : List ℕ) (i : ℕ) → i < length text → digit_value (get_or text i 0) < 10 → AllDigits 10 (take i text)
    → AllDigits 10 (take (suc i) text)
one_more [] i h e d = absurd (omega arith)
one_more (c ∷ cs) zero h e d = (e, tt)
one_more (c ∷ cs) (suc i) h e d = (d.0, one_more cs i (omega arith) e d.1)

-- the number of one digit more
pub next_digit : (text : List ℕ) (i n more : ℕ) → i < length text → IsInRange 48 57 (get_or text i 0)
    → AllDigits 10 (take i text)
    → n ≡ digits_value 10 (take i text)
    → more ≡ n * 10 + (get_or text i 0 - 48)
    → AllDigits 10 (take (i + 1) text) × (more ≡ digits_value 10 (take (i + 1) text))
next_digit text i n more h range digits is next =
    let value = digit_value_digit (get_or text i 0) range in
    let digit : get_or text i 0 - 48 ≡ digit_value (get_or text i 0) = omega arith in (
      subst (λ m. AllDigits 10 (take m text)) (sym (add-one i)) (one_more text i h (omega arith) digits),
      next ∙ (λ j. is j * 10 + digit j) ∙ sym (digits_value_more 10 text i h),
    )

-- so many digits at the front are a number
pub takes_digits : (text : List ℕ) (len n : ℕ) (rest : List ℕ) → 0 < len → len ≤ length text
    → AllDigits 10 (take len text) → n ≡ digits_value 10 (take len text) → rest ≡ drop len text
    → TakesDigits text n len rest
takes_digits text len n rest some within digits number left =
    let h : length (take len text) ≡ len = length-take-le len text within in (
      take len text,
      (omega arith, digits),
      number,
      sym h,
      sym (take-append-drop len text) ∙ ap (λ r. take len text ++ r) (sym left),
    )

-- digits that follow make no number smaller
after_least : (acc : ℕ) (ds : List ℕ) → acc ≤ digits_value_after 10 acc ds
after_least acc [] = omega arith
after_least acc (c ∷ cs) = omega (arith, after_least (acc * 10 + digit_value c) cs)

-- the first bytes of a run of digits are of no larger number
run_least : (acc : ℕ) (ds rest : List ℕ) (k : ℕ) → EndsDigits rest → k ≤ length (ds ++ rest)
    → AllDigits 10 (take k (ds ++ rest))
    → digits_value_after 10 acc (take k (ds ++ rest)) ≤ digits_value_after 10 acc ds
run_least acc [] rest zero ends within digits = omega arith
run_least acc [] [] (suc k) ends within digits = absurd (omega arith)
run_least acc [] (c ∷ rest) (suc k) ends within digits = absurd (ends digits.0)
run_least acc (c ∷ ds) rest zero ends within digits = after_least acc (c ∷ ds)
run_least acc (c ∷ ds) rest (suc k) ends within digits =
    run_least (acc * 10 + digit_value c) ds rest k ends (omega arith) digits.1

-- the number of all the digits at the front is that of the first ones at least
pub least_number : (text : List ℕ) (k m bound : ℕ) → k ≤ length text → AllDigits 10 (take k text)
    → m ≡ digits_value 10 (take k text) → bound ≤ m → NoNumber bound text
least_number text k m bound within digits number large n len rest taken =
    let is = taken.0.4 in
    let least = run_least 0 taken.0.0 rest k taken.1 (subst (λ t. k ≤ length t) is within)
    (subst (λ t. AllDigits 10 (take k t)) is digits) in
    let same : digits_value 10 (take k text) ≡ digits_value 10 (take k (taken.0.0 ++ rest)) =
    ap (λ t. digits_value 10 (take k t)) is in
    omega (arith, least, same, number, taken.0.2)

-- a number that is taken, as one of 32 bits
pub narrowed : {E : Type 0} (text rest : List ℕ) (n : ℕ) (result : Result ℕ E) (found : Option ℕ)
    → OkIff result (n < 2 ^ 32) n → found ≡ result_ok result → TakesNumber text n rest × EndsDigits rest
    → MatchOption found (NoNumber (2 ^ 32) text) (λ n. TakesNumber text n rest × EndsDigits rest)
narrowed text rest n (Ok x) found fits is taken =
    subst (λ found. MatchOption found (NoNumber (2 ^ 32) text) (λ n. TakesNumber text n rest × EndsDigits rest))
    (sym is) (subst (λ n. TakesNumber text n rest × EndsDigits rest) (sym fits.1) taken)
narrowed text rest n (Err e) found fits is taken =
    let own = taken.0.1 in
    let front : take (length own.0) text ≡ own.0 = ap (take (length own.0)) own.4 ∙ take-append_seam own.0 rest in
    subst (λ found. MatchOption found (NoNumber (2 ^ 32) text) (λ n. TakesNumber text n rest × EndsDigits rest))
    (sym is) (least_number text (length own.0) n (2 ^ 32) (omega (arith, ap length own.4, length-append own.0 rest))
    (subst (AllDigits 10) (sym front) own.1.1) (own.2 ∙ ap (digits_value 10) (sym front)) (omega (arith, fits)))

-- no digit is at a place where the text ends or has another byte
pub ends_at : (text : List ℕ) (i : ℕ) → (i < length text → digit_value (get_or text i 0) < 10 → ⊥)
    → EndsDigits (drop i text)
ends_at [] zero none = tt
ends_at [] (suc i) none = tt
ends_at (c ∷ cs) zero none = none (omega arith)
ends_at (c ∷ cs) (suc i) none = ends_at cs i (λ within. none (omega arith))

join_pairs : (ds es text mid rest : List ℕ) (a b : ℕ) → AllDigits 10 ds → AllDigits 10 es → a ≡ digits_value 10 ds
    → b ≡ digits_value 10 es
    → 2 ≡ length ds
    → 2 ≡ length es
    → text ≡ ds ++ mid
    → mid ≡ es ++ rest
    → TakesDigits text (a * 100 + b) 4 rest
join_pairs [] es text mid rest a b p q is also m n at then = absurd (omega arith)
join_pairs (c ∷ []) es text mid rest a b p q is also m n at then = absurd (omega arith)
join_pairs (c ∷ d ∷ x ∷ ds) es text mid rest a b p q is also m n at then = absurd (omega arith)
join_pairs (c ∷ d ∷ []) [] text mid rest a b p q is also m n at then = absurd (omega arith)
join_pairs (c ∷ d ∷ []) (e ∷ []) text mid rest a b p q is also m n at then = absurd (omega arith)
join_pairs (c ∷ d ∷ []) (e ∷ f ∷ x ∷ es) text mid rest a b p q is also m n at then = absurd (omega arith)
join_pairs (c ∷ d ∷ []) (e ∷ f ∷ []) text mid rest a b p q is also m n at then = (
  c ∷ d ∷ e ∷ f ∷ [],
  (omega arith, (p.0, (p.1.0, q))),
  omega arith,
  refl,
  at ∙ ap (λ l. c ∷ d ∷ l) then,
)

-- two digits and two more are four
pub pairs_taken : (text mid rest : List ℕ) (a b : ℕ) → TakesDigits text a 2 mid → TakesDigits mid b 2 rest
    → TakesDigits text (a * 100 + b) 4 rest
pairs_taken text mid rest a b p q =
    join_pairs p.0 q.0 text mid rest a b p.1.1 q.1.1 p.2 q.2 p.3 q.3 p.4 q.4
