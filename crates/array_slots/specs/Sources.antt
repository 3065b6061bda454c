-- The elements that a source gives, in their order.
use Rattle.std.specs.Prelude.{◌≡◌, ◌⊎◌, ℕ, ◌<◌, List, [], ◌∷◌, length, Result, Ok, Err}

-- starting as s, the source gave these elements, in their order, and is then t
abbrev pub GivesAll : {S A : Type 0} → (S → A → S → Type 0) → S → List A → S → Type 0
GivesAll gives s [] t = s ≡ t
GivesAll {S} gives s (x ∷ xs) t = (u : S) × gives s x u × GivesAll gives u xs t

-- starting as s, the source gave fewer than n elements and then stopped, and is then t
abbrev pub StopsBefore : {S A : Type 0} → (S → A → S → Type 0) → (S → S → Type 0) → S → ℕ → S → Type 0
StopsBefore {S} {A} gives stops s n t =
    (xs : List A) × (u : S) × GivesAll gives s xs u × (length xs < n) × stops u t

-- an array has n elements, those that the source gave starting as s, and what is left after them is valid; a fault is
-- the one with which the source stopped before it gave n, or the one of what is left after them
abbrev pub AnswersArray : {S A E : Type 0} → (S → A → S → Type 0) → (S → S → Type 0) → (S → E → Type 0)
    → (S → Result (Unit {0}) E → Type 0) → S → ℕ → Result (List A) E → Type 0
AnswersArray {S} gives stops stopped_at finishes s n (Ok xs) =
    (length xs ≡ n) × ((t : S) × GivesAll gives s xs t × finishes t (Ok tt))
AnswersArray {S} {A} gives stops stopped_at finishes s n (Err e) =
    ((t : S) × StopsBefore gives stops s n t × stopped_at t e)
    ⊎ ((xs : List A) × (t : S) × (length xs ≡ n) × GivesAll gives s xs t × finishes t (Err e))
