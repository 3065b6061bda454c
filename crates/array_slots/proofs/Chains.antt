-- Elements that a source gives, taken together.
use Rattle.std.proofs.Common.{◌≡◌, refl, sym, subst, ap, ◌∙◌, ℕ, ◌-◌, ◌<◌, List, [], ◌∷◌, ◌++◌, Result, Ok, Err}
use Rattle.std.proofs.Common.{MatchResult, length, take, slice_set, arith, inl, inr}
use Rattle.std.proofs.Common.{not-suc-le-zero}
use Rattle.array_slots.specs.Sources.{AnswersArray, GivesAll, StopsBefore}

-- a list whose first item was set begins with it
pub first_put : {A : Type 0} (xs ys : List A) (x : A) → 0 < length xs → ys ≡ slice_set xs 0 x → take 1 ys ≡ x ∷ []
first_put [] ys x some e = absurd (not-suc-le-zero some)
first_put (y ∷ xs) ys x some e = ap (take 1) e

module _ {S A : Type 0} (gives : S → A → S → Type 0) where
  -- one element more at the end
  pub gives_more : (s : S) (xs : List A) (u : S) (y : A) (t : S) → GivesAll gives s xs u → gives u y t
      → GivesAll gives s (xs ++ y ∷ []) t
  gives_more s [] u y t e h = (t, subst (λ v. gives v y t) (sym e) h, refl)
  gives_more s (x ∷ xs) u y t (v, h, more) k = (v, h, gives_more v xs u y t more k)

  -- the first element, and then the others
  pub first_and_others : (stops : S → S → Type 0) (s u : S) (x : A) (n : ℕ) (r : Result (List A × S) S) → gives s x u
      → MatchResult r (λ p. (length p.0 ≡ n) × ((xs : List A) × (p.0 ≡ x ∷ xs) × GivesAll gives u xs p.1))
      (λ t. StopsBefore gives stops u (n - 1) t)
      → MatchResult r (λ p. (length p.0 ≡ n) × GivesAll gives s p.0 p.1) (λ t. StopsBefore gives stops s n t)
  first_and_others stops s u x n (Ok (ys, t)) one (long, (xs, are, more)) =
      (long, subst (λ zs. GivesAll gives s zs t) (sym are) (u, one, more))
  first_and_others stops s u x n (Err t) one (xs, v, more, fewer, stopped) =
      (x ∷ xs, v, (u, one, more), omega (arith, fewer), stopped)

-- what holds of either answer holds in other words
pub in_words : {A E : Type 0} (r : Result A E) {P P' : A → Type 0} {Q Q' : E → Type 0} → ((a : A) → P a → P' a)
    → ((e : E) → Q e → Q' e) → MatchResult r P Q → MatchResult r P' Q'
in_words (Ok a) f g h = f a h
in_words (Err e) f g h = g e h

-- what follows of the answer from what was read
pub answers_array : {S A E : Type 0} (gives : S → A → S → Type 0) (stops : S → S → Type 0) (stopped_at : S → E → Type 0)
    (finishes : S → Result (Unit {0}) E → Type 0) (s : S) (n : ℕ) (r : Result (List A × S) S) (out : Result (List A) E)
    → MatchResult r (λ p. (length p.0 ≡ n) × GivesAll gives s p.0 p.1) (λ t. StopsBefore gives stops s n t)
    → MatchResult r (λ p. MatchResult out (λ a. (a ≡ p.0) × finishes p.1 (Ok tt)) (λ e. finishes p.1 (Err e)))
    (λ t. MatchResult out (λ _. ⊥) (λ e. stopped_at t e))
    → AnswersArray gives stops stopped_at finishes s n out
answers_array gives stops stopped_at finishes s n (Ok (ys, t)) (Ok xs) (long, more) (same, ends) =
    (ap length same ∙ long, (t, subst (λ zs. GivesAll gives s zs t) (sym same) more, ends))
answers_array gives stops stopped_at finishes s n (Ok (ys, t)) (Err e) (long, more) ends = inr (ys, t, long, more, ends)
answers_array gives stops stopped_at finishes s n (Err t) (Ok xs) stopped bad = absurd bad
answers_array gives stops stopped_at finishes s n (Err t) (Err e) stopped at = inl (t, stopped, at)
