-- The number that a tag ends with stands after its last space.
use Rattle.std.proofs.Common.{◌≡◌, ◌<◌, ◌+◌, ◌-◌, ◌++◌, ℕ, suc, List, [], ◌∷◌, length, take, drop, get_or}
use Rattle.std.proofs.Common.{Option, Some, None, MatchOption, ap, sym, subst, ◌∙◌, arith, ⊎_elim}
use Rattle.std.proofs.Common.{length-append, append_assoc}
use Rattle.std.proofs.lemmas.Bool.{cases_lt, eq-eqb, eqb-true}
use Rattle.std.proofs.lemmas.List.{drop_at, drop_more, get_or-append-add, length-drop, take-append-drop, take_all}
use Rattle.std.proofs.Math.Seq.{get_or-append_seam}
use Rattle.std.proofs.lemmas.Str.Parse.{digit_at}
use Rattle.std.specs.Str.Parse.{AllDigits}
use Rattle.pg_messages.specs.Commands.{IsNumber, IsRowCount}
use Rattle.memchr.specs.Find.{IsLastByte, Passes, is_byte}

module _ (tag front word : List ℕ) (is : tag ≡ front ++ 32 ∷ word) (digits : AllDigits 10 word) where
  long : length tag ≡ length front + suc (length word)
  long = ap length is ∙ length-append front (32 ∷ word)

  a_space : Passes (is_byte 32) tag (length front)
  a_space = eq-eqb _ 32 (ap (λ s. get_or s (length front) 0) is ∙ get_or-append_seam front 32 word 0)

  -- no digit is a space
  digit : (k : ℕ) → k < length word → Passes (is_byte 32) tag (length front + suc k) → ⊥
  digit k h passes =
      let range = digit_at word k digits h in
      let same = ap (λ s. get_or s (length front + suc k) 0) is ∙ get_or-append-add front (32 ∷ word) (suc k) 0 in
      let space = eqb-true _ _ passes in
      omega (arith, range, same, space)

  module _ (at : ℕ) (last : IsLastByte (is_byte 32) tag (Some at)) where
    not_before : at < length front → ⊥
    not_before h = last.0.after (length front) (omega (arith, h)) (omega (arith, long)) a_space

    not_beyond : length front < at → ⊥
    not_beyond h =
        let k = at - length front - 1 in
        let same : at ≡ length front + suc k = omega (arith, h) in
        digit k (omega (arith, h, long, last.0.high)) (subst (Passes (is_byte 32) tag) same last.1)

    -- the space before the digits is the last one
    at_front : at ≡ length front
    at_front =
        ⊎_elim (λ h. absurd (not_before h))
        (λ h. ⊎_elim (λ l. absurd (not_beyond l)) (λ l. omega (arith, h, l)) (cases_lt (length front) at))
        (cases_lt at (length front))

    -- so that the digits are what comes after the last space
    word_is : drop (at + 1) tag ≡ word
    word_is =
        ap (drop (at + 1)) (is ∙ sym (append_assoc front (32 ∷ []) word))
        ∙ drop_at (front ++ 32 ∷ []) word (at + 1) (omega (arith, at_front, length-append front (32 ∷ [])))

  -- and there is one
  is_there : IsLastByte (is_byte 32) tag None → ⊥
  is_there none = none (length front) (omega arith) (omega (arith, long)) a_space

-- the number after the last space is that of the tag
counted : (tag : List ℕ) (at : ℕ) (result : Option ℕ) → IsLastByte (is_byte 32) tag (Some at)
    → MatchOption result ((n : ℕ) → IsNumber (drop (at + 1) tag) n → ⊥) (IsNumber (drop (at + 1) tag))
    → MatchOption result ((n : ℕ) → IsRowCount tag n → ⊥) (IsRowCount tag)
counted tag at (Some n) last number =
    let space : get_or tag at 0 ≡ 32 = eqb-true _ _ last.1 in
    let is : tag ≡ take at tag ++ 32 ∷ drop (at + 1) tag =
    sym (take-append-drop at tag)
    ∙ ap (λ s. take at tag ++ s) (drop_more tag at 0 last.0.high ∙ ap (λ byte. byte ∷ drop (at + 1) tag) space) in
    (take at tag, drop (at + 1) tag, is, number)
counted tag at None last none = λ n count.
    none n (subst (λ word. IsNumber word n) (sym (word_is tag count.0 count.1 count.2 count.3.0.1 at last)) count.3)

pub counted_in : (tag bytes : List ℕ) (at : ℕ) (place result : Option ℕ) → bytes ≡ tag → place ≡ Some at
    → IsLastByte (is_byte 32) bytes place
    → MatchOption result ((n : ℕ) → IsNumber (take (length bytes - (at + 1)) (drop (at + 1) bytes)) n → ⊥)
    (IsNumber (take (length bytes - (at + 1)) (drop (at + 1) bytes)))
    → MatchOption result ((n : ℕ) → IsRowCount tag n → ⊥) (IsRowCount tag)
counted_in tag bytes at place result same found last number =
    let last = subst (IsLastByte (is_byte 32) bytes) found last in
    let whole : take (length bytes - (at + 1)) (drop (at + 1) bytes) ≡ drop (at + 1) bytes =
    take_all _ _ (omega (arith, length-drop (at + 1) bytes)) in
    subst (λ s. MatchOption result ((n : ℕ) → IsRowCount s n → ⊥) (IsRowCount s)) same
    (counted bytes at result last
    (subst (λ word. MatchOption result ((n : ℕ) → IsNumber word n → ⊥) (IsNumber word)) whole number))

-- without a space there is none
pub none_in : (tag bytes : List ℕ) (place : Option ℕ) → bytes ≡ tag → place ≡ None
    → IsLastByte (is_byte 32) bytes place → (n : ℕ) → IsRowCount tag n → ⊥
none_in tag bytes place same found last n count =
    is_there tag count.0 count.1 count.2 count.3.0.1
    (subst (λ s. IsLastByte (is_byte 32) s None) same (subst (IsLastByte (is_byte 32) bytes) found last))
