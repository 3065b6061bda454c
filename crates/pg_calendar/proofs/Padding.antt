-- Lemmas on numbers in so many digits, of which the first may be 0.
use Rattle.std.proofs.Common.{◌≡◌, ℕ, ◌+◌, ◌-◌, ◌/◌, ◌%◌, ◌^◌, ◌<◌, [], ◌∷◌, ◌++◌, length, replicate, ap, sym, ◌∙◌}
use Rattle.std.proofs.Common.{inl, inr, append_assoc, append-nil, arith, eq-zero-or-pos, false, length-append, ◌==◌}
use Rattle.std.proofs.lemmas.Fmt.{decimal_digit, decimal_step}
use Rattle.std.proofs.lemmas.List.{replicate-append-replicate}
use Rattle.std.specs.Fmt.{char_count, decimal, format_spec, padded_integral, styled_decimal}
use Rattle.pg_calendar.specs.Texts.{padded_text}

-- the last digit comes after the others
pub last_digit : (w n : ℕ) → 0 < w → n < 2 ^ 64
    → padded_text (w + 1) n ≡ padded_text w (n / 10) ++ (48 + n % 10) ∷ []
last_digit w n some small =
    elim (eq-zero-or-pos (n / 10)) [
      | inl none ↦
          let k : w + 1 - 1 ≡ w = omega arith in
          let l : w - 1 + 1 ≡ w = omega arith in
          let e : n ≡ n % 10 = omega arith in
          let number : padded_text (w + 1) n ≡ replicate w 48 ++ (48 + n) ∷ [] =
          ap (λ d. replicate (w + 1 - length d) 48 ++ d) (decimal_digit n (omega arith))
          ∙ ap (λ m. replicate m 48 ++ (48 + n) ∷ []) k in
          let zeros : padded_text w (n / 10) ≡ replicate w 48 =
          ap (padded_text w) none ∙ ap (λ d. replicate (w - length d) 48 ++ d) (decimal_digit 0 (omega arith))
          ∙ replicate-append-replicate (w - 1) 1 48 ∙ ap (λ m. replicate m 48) l in
          number ∙ (λ i. sym zeros i ++ (48 + e i) ∷ [])
      | inr more ↦
          let step = decimal_step n (omega arith) small in
          let others = decimal (n / 10) in
          let last = (48 + n % 10) ∷ [] in
          let len : length (decimal n) ≡ length others + 1 = ap length step ∙ length-append others last in
          let zeros : w + 1 - length (decimal n) ≡ w - length others = omega arith in
          (λ i. replicate (zeros i) 48 ++ step i) ∙ sym (append_assoc (replicate (w - length others) 48) others last)
    ]

pub one_digit : (n : ℕ) → n < 10 → padded_text 1 n ≡ (48 + n) ∷ []
one_digit n small = ap (λ d. replicate (1 - length d) 48 ++ d) (decimal_digit n small)

pub two_digits : (n : ℕ) → n < 100 → padded_text 2 n ≡ (48 + n / 10) ∷ (48 + n % 10) ∷ []
two_digits n small =
    last_digit 1 n (omega arith) (omega arith)
    ∙ ap (λ l. l ++ (48 + n % 10) ∷ []) (one_digit (n / 10) (omega arith))

-- the last two digits come after the others
pub last_pair : (w n : ℕ) → 0 < w → n < 2 ^ 64
    → padded_text (w + 2) n ≡ padded_text w (n / 100) ++ padded_text 2 (n % 100)
last_pair w n some small =
    let k : w + 2 ≡ w + 1 + 1 = omega arith in
    let a : n / 10 / 10 ≡ n / 100 = omega arith in
    let b : n / 10 % 10 ≡ n % 100 / 10 = omega arith in
    let c : n % 10 ≡ n % 100 % 10 = omega arith in
    ap (λ m. padded_text m n) k ∙ last_digit (w + 1) n (omega arith) small
    ∙ ap (λ l. l ++ (48 + n % 10) ∷ []) (last_digit w (n / 10) some (omega arith))
    ∙ append_assoc (padded_text w (n / 10 / 10)) ((48 + n / 10 % 10) ∷ []) ((48 + n % 10) ∷ [])
    ∙ (λ i. padded_text w (a i) ++ (48 + b i) ∷ (48 + c i) ∷ [])
    ∙ ap (λ l. padded_text w (n / 100) ++ l) (sym (two_digits (n % 100) (omega arith)))

pub two_pairs : (n : ℕ) → n < 2 ^ 64 → padded_text 4 n ≡ padded_text 2 (n / 100) ++ padded_text 2 (n % 100)
two_pairs n small = last_pair 2 n (omega arith) small

pub three_pairs : (n : ℕ) → n < 2 ^ 64
    → padded_text 6 n ≡ padded_text 2 (n / 10000) ++ (padded_text 2 (n / 100 % 100) ++ padded_text 2 (n % 100))
three_pairs n small =
    let a : n / 100 / 100 ≡ n / 10000 = omega arith in
    last_pair 4 n (omega arith) small ∙ ap (λ l. l ++ padded_text 2 (n % 100)) (two_pairs (n / 100) (omega arith))
    ∙ append_assoc (padded_text 2 (n / 100 / 100)) (padded_text 2 (n / 100 % 100)) (padded_text 2 (n % 100))
    ∙ ap (λ m. padded_text 2 m ++ (padded_text 2 (n / 100 % 100) ++ padded_text 2 (n % 100))) a

-- what `{n:0w}` writes
pub padded_hole : (w n : ℕ) → (w == 0) ≡ false
    → styled_decimal (format_spec 32 0 4 w (2 ^ 64 - 1)) n ≡ padded_text w n
unfolding padded_integral char_count
padded_hole w n some =
    let digits = decimal n in
    let zeros : w - length digits - 0 - 0 ≡ w - length digits = omega arith in
    rw some (ap (λ m. replicate m 48 ++ (digits ++ [])) zeros
    ∙ ap (λ l. replicate (w - length digits) 48 ++ l) (append-nil digits))
