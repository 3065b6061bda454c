-- Types over another: a value that contains one of another type, like a newtype, and values under a constraint, like
-- those of a domain.
use Rattle.std.specs.Prelude.{◌≡◌, ◌⊎◌, Bool, true, false, Ok, Err}
use Rattle.pg_base.specs.Cells.{Cell}
use Rattle.pg_types.specs.Faults.{Outcome, Refusal}

-- a value that contains what is given inside, or its fault
abbrev pub Through : {A B : Type 0} → (B → A) → (Outcome A → Type 0) → Outcome B → Type 0
Through inside gives (Ok v) = gives (Ok (inside v))
Through inside gives (Err r) = gives (Err r)

-- what a cell gives, NULL included, if the values contain those of another type
abbrev pub ReadsThrough : {A B : Type 0} → (B → A) → (Cell → Outcome A → Type 0) → Cell → Outcome B → Type 0
ReadsThrough inside reads c = Through inside (reads c)

-- a value is given that does not meet the constraint, so the fault is that of the constraint
pub record IsUnmet {A : Type 0} (meets : A → Bool) (fault : Refusal) (gives : Outcome A → Type 0) (r : Refusal) : Type 0 where
  pub value : A
  pub given : gives (Ok value)
  pub fails : meets value ≡ false
  pub is : r ≡ fault

-- what is given under a constraint: a value that meets it, the fault that is given, or the fault of the constraint
abbrev pub Constrained : {A : Type 0} → (A → Bool) → Refusal → (Outcome A → Type 0) → Outcome A → Type 0
Constrained meets fault gives (Ok v) = gives (Ok v) × (meets v ≡ true)
Constrained meets fault gives (Err r) = gives (Err r) ⊎ IsUnmet meets fault gives r

-- what a cell gives under a constraint
abbrev pub ReadsConstrained : {A : Type 0} → (A → Bool) → Refusal → (Cell → Outcome A → Type 0) → Cell → Outcome A
    → Type 0
ReadsConstrained meets fault reads c = Constrained meets fault (reads c)
