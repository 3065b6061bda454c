-- Lemmas on the digits of numbers.
use Rattle.std.proofs.Common.{◌≡◌, ℕ, zero, suc, ◌-◌, ◌/◌, ◌%◌, ◌<◌, ◌≤◌, ◌==◌, List, [], ◌∷◌, Bool, true, false}
use Rattle.std.proofs.Common.{cond, length, drop, set, refl, ap, ◌∙◌, length-set, arith}
use Rattle.std.specs.Fmt.{digit_glyph, digits, digits_onto}
use Rattle.std.proofs.Math.Seq.{drop-cons}
use Rattle.std.proofs.lemmas.Bool.{eq-eqb, ne_eqb}
use Rattle.std.proofs.lemmas.List.{drop-set-lt, get_or-set_same}

pub onto_nothing : (upper : Bool) (n : ℕ) → digits_onto 64 16 upper n [] ≡ digits 16 upper n
unfolding digits
onto_nothing upper n = refl

module _ (upper : Bool) (n : ℕ) (acc : List ℕ) where
  by_test : (k : ℕ) (t : Bool) → (n / 16 == 0) ≡ t
      → digits_onto (suc k) 16 upper n acc ≡ cond t (digit_glyph upper (n % 16) ∷ acc)
      (digits_onto k 16 upper (n / 16) (digit_glyph upper (n % 16) ∷ acc))
  by_test k t e = ap (λ b. cond b (digit_glyph upper (n % 16) ∷ acc)
      (digits_onto k 16 upper (n / 16) (digit_glyph upper (n % 16) ∷ acc))) e

  -- the first digit
  pub onto_first : (i : ℕ) → 0 < i → n / 16 ≡ 0 → digits_onto i 16 upper n acc ≡ digit_glyph upper (n % 16) ∷ acc
  onto_first zero h e = absurd (omega arith)
  onto_first (suc k) h e = by_test k true (eq-eqb _ 0 e)

  -- a digit after others
  pub onto_more : (i : ℕ) → 0 < i → (n / 16 ≡ 0 → ⊥)
      → digits_onto i 16 upper n acc ≡ digits_onto (i - 1) 16 upper (n / 16) (digit_glyph upper (n % 16) ∷ acc)
  onto_more zero h e = absurd (omega arith)
  onto_more (suc k) h e =
      let same : k ≡ suc k - 1 = omega arith in
      by_test k false (ne_eqb _ 0 e)
      ∙ ap (λ j. digits_onto j 16 upper (n / 16) (digit_glyph upper (n % 16) ∷ acc)) same

-- a byte put before what is written
pub put_before : (out : List ℕ) (i x g : ℕ) → 0 < i → i ≤ length out → x ≡ g
    → drop (i - 1) (set out (i - 1) x) ≡ g ∷ drop i out
put_before out zero x g h k e = absurd (omega arith)
put_before out (suc j) x g h k e =
    let same : suc j - 1 ≡ j = omega arith in
    ap (λ m. drop m (set out m x)) same ∙ drop-cons (set out j x) j 0 (omega (arith, length-set out j x))
    ∙ (λ t. (get_or-set_same out j x 0 k ∙ e) t ∷ drop-set-lt (suc j) out j x (omega arith) t)
