-- What a reader stores and returns.
use Rattle.std.specs.Prelude.{◌≡◌, ◌⊎◌, ℕ, Result, Ok, Err, IfOk, IfErr}
use Rattle.pg_types.specs.declared.fault.Fault.{Fault}
use Rattle.pg_types.specs.Faults.{Refusal, Outcome, code_of, number_of}

-- what was read is stored, and the result is 0; or the result is the number of the fault, and the variable is unchanged
pub record Stores {A : Type 0} (read : Result A Fault) (old new : A) (code : ℕ) : Type 0 where
  pub stored : IfOk read (λ v. (code ≡ 0) × (new ≡ v))
  pub refused : IfErr read (λ f. (code ≡ code_of f) × (new ≡ old))

-- the result is the number of a refusal that R allows, and the variable is unchanged
abbrev pub IsRefused : {A : Type 0} → (Outcome A → Type 0) → A → A → ℕ → Type 0
IsRefused R old new code = (r : Refusal) × (code ≡ number_of r) × R (Err r) × (new ≡ old)

-- a function read an outcome that R allows into a variable: the result is 0 and the variable has the value, or the cell
-- is refused. The fault is never Memory
unfoldable pub ReadsInto : {A : Type 0} → (Outcome A → Type 0) → A → A → ℕ → Type 0
ReadsInto R old new code = ((code ≡ 0) × R (Ok new)) ⊎ IsRefused R old new code
