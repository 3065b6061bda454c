-- Lists whose items are related, one after another.
use Rattle.std.specs.Prelude.{◌≡◌, suc, List, [], ◌∷◌, length, Ok, Err, refl}
use Rattle.std.proofs.Common.{ap, inl, inr}
use Rattle.pg_types.specs.Faults.{Outcome}
use Rattle.pg_base.specs.Sameness.{SameList}
use Rattle.pg_read.specs.ArrayReading.{ReadsAll}

module _ {C D : Type 0} (related : C → D → Type 0) where
  -- the lists have the same length
  pub related_length : (cs : List C) (ds : List D) → SameList related cs ds → length cs ≡ length ds
  related_length [] [] h = refl
  related_length [] (d ∷ ds) h = absurd h
  related_length (c ∷ cs) [] h = absurd h
  related_length (c ∷ cs) (d ∷ ds) h = ap suc (related_length cs ds h.1)

  -- and are related the other way round
  pub flipped : (cs : List C) (ds : List D) → SameList related cs ds → SameList (λ d c. related c d) ds cs
  flipped [] [] h = tt
  flipped [] (d ∷ ds) h = absurd h
  flipped (c ∷ cs) [] h = absurd h
  flipped (c ∷ cs) (d ∷ ds) h = (h.0, flipped cs ds h.1)

  -- if each item gives what the one related to it gives, so do the lists
  pub related_give : {A : Type 0} (P : C → Outcome A → Type 0) (Q : D → Outcome A → Type 0)
      → ((c : C) (d : D) (o : Outcome A) → related c d → P c o → Q d o)
      → (cs : List C) (ds : List D) (o : Outcome (List A)) → SameList related cs ds → ReadsAll P cs o → ReadsAll Q ds o
  related_give P Q f [] [] (Ok []) h k = tt
  related_give P Q f [] [] (Ok (v ∷ vs)) h k = absurd k
  related_give P Q f [] [] (Err r) h k = absurd k
  related_give P Q f [] (d ∷ ds) o h k = absurd h
  related_give P Q f (c ∷ cs) [] o h k = absurd h
  related_give P Q f (c ∷ cs) (d ∷ ds) (Ok []) h k = absurd k
  related_give P Q f (c ∷ cs) (d ∷ ds) (Ok (v ∷ vs)) h k =
      (f c d (Ok v) h.0 k.0, related_give P Q f cs ds (Ok vs) h.1 k.1)
  related_give P Q f (c ∷ cs) (d ∷ ds) (Err r) h k = elim k [
    | inl z ↦ inl (f c d (Err r) h.0 z)
    | inr z ↦ inr (z.0, f c d (Ok z.0) h.0 z.1, related_give P Q f cs ds (Err r) h.1 z.2)
  ]
