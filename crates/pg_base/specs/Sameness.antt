-- When two values are the same: if their contents are, wherever they are stored.
use Rattle.std.specs.Prelude.{List, [], ◌∷◌, Option, Some, None}

-- a sameness of values is an equivalence: it is reflexive, symmetric and transitive
pub record IsEquivalence {A : Type 0} (same : A → A → Type 0) : Type 0 where
  pub reflexive : (a : A) → same a a
  pub symmetric : (a b : A) → same a b → same b a
  pub transitive : (a b c : A) → same a b → same b c → same a c

-- options are the same where both are None, or both are Some of the same
abbrev pub SameOption : {A : Type 0} → (A → A → Type 0) → Option A → Option A → Type 0
SameOption same None None = Unit {0}
SameOption same None (Some b) = ⊥
SameOption same (Some a) None = ⊥
SameOption same (Some a) (Some b) = same a b

-- lists are the same where their values are, one after another; `same` may relate values of two types
abbrev pub SameList : {A B : Type 0} → (A → B → Type 0) → List A → List B → Type 0
SameList same [] [] = Unit {0}
SameList same [] (w ∷ ws) = ⊥
SameList same (v ∷ vs) [] = ⊥
SameList same (v ∷ vs) (w ∷ ws) = same v w × SameList same vs ws
