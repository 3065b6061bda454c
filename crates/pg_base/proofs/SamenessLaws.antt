-- Laws of sameness: which relations are equivalences.
use Rattle.std.specs.Prelude.{◌≡◌, List, [], ◌∷◌, Option, Some, None, refl}
use Rattle.std.proofs.Common.{sym, ◌∙◌}
use Rattle.pg_base.specs.Sameness.{IsEquivalence, SameOption, SameList}

-- to be equal is an equivalence
pub equal_equivalence : {A : Type 0} → IsEquivalence {A = A} (λ a b. a ≡ b)
equal_equivalence = record { reflexive = λ a. refl; symmetric = λ a b h. sym h; transitive = λ a b c h k. h ∙ k }

-- to have the same content is one
pub content_equivalence : {A B : Type 0} (content_of : A → B) → IsEquivalence (λ a b. content_of a ≡ content_of b)
content_equivalence content_of = record
    { reflexive = λ a. refl; symmetric = λ a b h. sym h; transitive = λ a b c h k. h ∙ k }

-- to have the same inside is one, where sameness inside is one
pub inside_equivalence : {A B : Type 0} (inside : B → A) (same : A → A → Type 0) → IsEquivalence same
    → IsEquivalence (λ v w. same (inside v) (inside w))
inside_equivalence inside same law = record {
  reflexive = λ v. law.reflexive (inside v);
  symmetric = λ v w h. law.symmetric (inside v) (inside w) h;
  transitive = λ u v w h k. law.transitive (inside u) (inside v) (inside w) h k;
}

module _ {A : Type 0} (same : A → A → Type 0) (law : IsEquivalence same) where
  option_reflexive : (a : Option A) → SameOption same a a
  option_reflexive None = tt
  option_reflexive (Some a) = law.reflexive a

  option_symmetric : (a b : Option A) → SameOption same a b → SameOption same b a
  option_symmetric None None h = tt
  option_symmetric None (Some b) h = absurd h
  option_symmetric (Some a) None h = absurd h
  option_symmetric (Some a) (Some b) h = law.symmetric a b h

  option_transitive : (a b c : Option A) → SameOption same a b → SameOption same b c → SameOption same a c
  option_transitive None None c h k = k
  option_transitive None (Some b) c h k = absurd h
  option_transitive (Some a) None c h k = absurd h
  option_transitive (Some a) (Some b) None h k = absurd k
  option_transitive (Some a) (Some b) (Some c) h k = law.transitive a b c h k

  -- sameness of options is an equivalence where that of the values inside is
  pub option_equivalence : IsEquivalence (SameOption same)
  option_equivalence = record {
    reflexive = option_reflexive;
    symmetric = option_symmetric;
    transitive =
        option_transitive;
  }

module _ {A : Type 0} (same : A → A → Type 0) (law : IsEquivalence same) where
  list_reflexive : (vs : List A) → SameList same vs vs
  list_reflexive [] = tt
  list_reflexive (v ∷ vs) = (law.reflexive v, list_reflexive vs)

  list_symmetric : (vs ws : List A) → SameList same vs ws → SameList same ws vs
  list_symmetric [] [] h = tt
  list_symmetric [] (w ∷ ws) h = absurd h
  list_symmetric (v ∷ vs) [] h = absurd h
  list_symmetric (v ∷ vs) (w ∷ ws) h = (law.symmetric v w h.0, list_symmetric vs ws h.1)

  list_transitive : (us vs ws : List A) → SameList same us vs → SameList same vs ws → SameList same us ws
  list_transitive [] [] ws h k = k
  list_transitive [] (v ∷ vs) ws h k = absurd h
  list_transitive (u ∷ us) [] ws h k = absurd h
  list_transitive (u ∷ us) (v ∷ vs) [] h k = absurd k
  list_transitive (u ∷ us) (v ∷ vs) (w ∷ ws) h k = (law.transitive u v w h.0 k.0, list_transitive us vs ws h.1 k.1)

  -- sameness of what holds lists is an equivalence where that of the values is
  pub list_equivalence : {X : Type 0} (items : X → List A) → IsEquivalence (λ x y. SameList same (items x) (items y))
  list_equivalence items = record {
    reflexive = λ x. list_reflexive (items x);
    symmetric = λ x y. list_symmetric (items x) (items y);
    transitive = λ x y z. list_transitive (items x) (items y) (items z);
  }
