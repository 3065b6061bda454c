-- Lemmas on the digits after a point.
use Rattle.std.proofs.Common.{◌≡◌, ℕ, suc, ◌+◌, ◌-◌, ◌==◌, List, [], ◌∷◌, ◌++◌, length, take, drop, ap, sym, ◌∙◌}
use Rattle.std.proofs.Common.{append_assoc, arith, cond, eqb, inl, inr, reverse}
use Rattle.std.specs.List.{prefix_len, suffix_len}
use Rattle.std.proofs.Math.Seq.{take-append-add}
use Rattle.std.proofs.lemmas.Bool.{cases_eq, cond-false, cond-true, eq-eqb, ne_eqb}
use Rattle.std.proofs.lemmas.List.Folds.{prefix_len-append}
use Rattle.std.proofs.lemmas.List.Sums.{suffix_len-le-length}
use Rattle.std.proofs.lemmas.List.{drop_at, reverse-append}
use Rattle.pg_calendar.specs.Texts.{padded_text, without_zeros}

-- what is left without the zeros at the end
ends_without_zeros : (old digits out : List ℕ) (start n : ℕ) → out ≡ old ++ digits → start ≡ length old
    → n ≡ length (drop start out) - suffix_len (λ c. c == 48) (drop start out)
    → take (start + n) out ≡ old ++ without_zeros digits
ends_without_zeros old digits out start n is at len =
    let tail : drop start out ≡ digits = ap (drop start) is ∙ drop_at old digits start (sym at) in
    let kept : n ≡ length digits - suffix_len (λ c. c == 48) digits =
    len ∙ ap (λ l. length l - suffix_len (λ c. c == 48) l) tail in
    (λ t. take (at t + n) (is t)) ∙ take-append-add old digits n ∙ ap (λ k. old ++ take k digits) kept

-- the point and the digits
pub fraction_is : (old before out new : List ℕ) (micros start n : ℕ)
    → before ≡ old ++ 46 ∷ []
    → out ≡ before ++ padded_text 6 micros
    → start ≡ length before
    → n ≡ length (drop start out) - suffix_len (λ c. c == 48) (drop start out)
    → new ≡ take (start + n) out
    → new ≡ old ++ 46 ∷ without_zeros (padded_text 6 micros)
fraction_is old before out new micros start n point is at len kept =
    kept ∙ ends_without_zeros before (padded_text 6 micros) out start n is at len
    ∙ ap (λ l. l ++ without_zeros (padded_text 6 micros)) point
    ∙ append_assoc old (46 ∷ []) (without_zeros (padded_text 6 micros))

-- a point is no zero at the end
no_more : (n k : ℕ) → cond (eqb k n) (n + 0) k ≡ k
no_more n k = elim (cases_eq k n) [
  | inl same ↦ cond-true _ _ _ (eq-eqb _ _ same) ∙ omega (arith, same)
  | inr other ↦ cond-false _ _ _ (ne_eqb _ _ other)
]

zeros_at_end : (digits : List ℕ)
    → suffix_len (λ c. c == 48) (46 ∷ digits) ≡ suffix_len (λ c. c == 48) digits
zeros_at_end digits =
    ap (prefix_len (λ c. c == 48)) (reverse-append (46 ∷ []) digits)
    ∙ prefix_len-append (λ c. c == 48) (reverse digits) (46 ∷ [])
    ∙ no_more (length (reverse digits)) (prefix_len (λ c. c == 48) (reverse digits))

pub point_stays : (digits : List ℕ) → without_zeros (46 ∷ digits) ≡ 46 ∷ without_zeros digits
point_stays digits =
    let zeros = zeros_at_end digits in
    let few = suffix_len-le-length (λ c. c == 48) digits in
    let n : suc (length digits) - suffix_len (λ c. c == 48) (46 ∷ digits)
    ≡ suc (length digits - suffix_len (λ c. c == 48) digits) = omega (arith, zeros, few) in
    ap (λ k. take k (46 ∷ digits)) n
