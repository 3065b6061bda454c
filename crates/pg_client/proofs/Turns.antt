-- Items one after another, and one more.
use Rattle.std.proofs.Common.{ℕ, List, [], ◌∷◌, ◌++◌, refl, subst, sym}
use Rattle.pg_client.specs.Descriptions.{InTurn}

module _ {A : Type 0} (At : A → List ℕ → List ℕ → Type 0) where
  -- an item after others
  pub one_more : (xs : List A) (x : A) (s mid rest : List ℕ) → InTurn At xs s mid → At x mid rest
      → InTurn At (xs ++ x ∷ []) s rest
  one_more [] x s mid rest before at = (rest, subst (λ t. At x t rest) (sym before) at, refl)
  one_more (y ∷ xs) x s mid rest (next, first, others) at = (next, first, one_more xs x next mid rest others at)
