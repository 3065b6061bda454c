-- The table of letters is held against their definition at each of the 256 bytes, by computing.
use Rattle.std.proofs.Common.{◌≡◌, ℕ, zero, suc, ◌<◌, Bool, true, false, ◌&&◌, get_or, List, Option, Some, None}
use Rattle.std.proofs.Common.{refl, ap, arith, inl, inr, sym, ◌∙◌, bit_or, ◌+◌, length, take}
use Rattle.std.specs.Prelude.{◌==◌, if◌then◌else◌, is_none}
use Rattle.std.proofs.lemmas.Bool.{cases_eq, eqb-true, ne_eqb, and_parts}
use Rattle.std.specs.List.{list_all}
use Rattle.std.proofs.lemmas.List.Folds.{list_all_more}
use Rattle.std.proofs.lemmas.Nat.{le_or_l, le_or_r}
use Rattle.pg_copy.specs.declared.escapes.TheConstants.{LETTERS}
use Rattle.pg_copy.specs.Escapes.{is_plain, letter_in, letter_of}

same : Option ℕ → Option ℕ → Bool
same None None = true
same None (Some b) = false
same (Some a) None = false
same (Some a) (Some b) = a == b

same_is : (a b : Option ℕ) → same a b ≡ true → a ≡ b
unfolding same
same_is None None h = refl
same_is None (Some b) h = cc
same_is (Some a) None h = cc
same_is (Some a) (Some b) h = ap Some (eqb-true a b h)

-- the two agree below n
agree_below : (ℕ → Option ℕ) → (ℕ → Option ℕ) → ℕ → Bool
agree_below f g zero = true
agree_below f g (suc n) = same (f n) (g n) && agree_below f g n

agree_at : (f g : ℕ → Option ℕ) (n : ℕ) → agree_below f g n ≡ true → (b : ℕ) → b < n → f b ≡ g b
unfolding agree_below
agree_at f g zero h b lt = absurd (omega arith)
agree_at f g (suc n) h b lt =
    let both = and_parts (same (f n) (g n)) (agree_below f g n) h in
    elim (cases_eq b n) [
      | inl e ↦ rw e (same_is (f n) (g n) both.0)
      | inr other ↦ agree_at f g n both.1 b (omega arith)
    ]

from_table : (table : List ℕ) (b : ℕ) → b < 256
    → agree_below (λ k. letter_in (get_or table k 0)) letter_of 256 ≡ true → letter_in (get_or table b 0) ≡ letter_of b
from_table table b lt h = agree_at (λ k. letter_in (get_or table k 0)) letter_of 256 h b lt

pub letter_at : (b : ℕ) → b < 256 → letter_in (get_or LETTERS b 0) ≡ letter_of b
unfolding agree_below same
letter_at b lt = from_table LETTERS b lt refl

not_zero : (n : ℕ) → (suc n == 0) ≡ false
not_zero n = ne_eqb (suc n) 0 (λ e. omega (arith, e))

none_in : (n : ℕ) → is_none (letter_in n) ≡ (n == 0)
none_in zero = refl
none_in (suc n) = ap (λ (b : Bool). is_none (if b then None else Some (suc n))) (not_zero n) ∙ sym (not_zero n)

-- a union is 0 where both are
or_is_zero : (a b : ℕ) → (bit_or a b == 0) ≡ (a == 0 && b == 0)
or_is_zero zero zero = refl
or_is_zero zero (suc b) =
    let k = le_or_r 0 (suc b) in ne_eqb (bit_or 0 (suc b)) 0 (λ e. omega (arith, k, e)) ∙ sym (not_zero b)
or_is_zero (suc a) b =
    let k = le_or_l (suc a) b in
    ne_eqb (bit_or (suc a) b) 0 (λ e. omega (arith, k, e)) ∙ sym (ap (λ (x : Bool). x && b == 0) (not_zero a))

-- one byte more is plain or not
pub plain_next : (text : List ℕ) (i letters letter : ℕ) → i < length text
    → letter_in letter ≡ letter_of (get_or text i 0)
    → (letters == 0) ≡ list_all is_plain (take i text)
    → (bit_or letters letter == 0) ≡ list_all is_plain (take (i + 1) text)
plain_next text i letters letter h is before =
    let plain : (letter == 0) ≡ is_plain (get_or text i 0) = sym (none_in letter) ∙ ap is_none is in
    or_is_zero letters letter ∙ (λ j. before j && plain j) ∙ sym (list_all_more is_plain text i 0 h)

pub some_letter : (letter byte : ℕ) → (letter ≡ 0 → ⊥) → letter_in letter ≡ letter_of byte
    → Some letter ≡ letter_of byte
some_letter letter byte some is =
    sym (ap (λ (b : Bool). if b then None else Some letter) (ne_eqb letter 0 some)) ∙ is
