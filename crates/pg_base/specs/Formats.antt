-- Plain formats: what bytes spell, and what cells read as.
use Rattle.std.specs.Prelude.{◌≡◌, ℕ, List, [], ◌∷◌, Bool, if◌then◌else◌, Option, Some, None, Ok, Err}
use Rattle.pg_base.specs.Cells.{AreBytes, Cell}
use Rattle.pg_types.specs.Faults.{Refusal, Outcome, was_null}

-- checks in order: for each whether it passes, and the fault if it does not
abbrev pub Checks : Type 0
Checks = List (Bool × Refusal)

-- the fault of the first check that fails
abbrev pub first_fault_of : Checks → Option Refusal
first_fault_of [] = None
first_fault_of (check ∷ checks) = if check.0 then first_fault_of checks else Some check.1

-- what bytes give in a plain format: a value that they spell, or the fault of the first check that they fail
abbrev pub Decodes : {A : Type 0} → (List ℕ → A → Type 0) → (List ℕ → Option Refusal) → List ℕ → Outcome A → Type 0
Decodes form first_fault b (Ok v) = form b v
Decodes form first_fault b (Err r) = first_fault b ≡ Some r

-- the outcome WasNull
abbrev pub IsWasNull : {A : Type 0} → Outcome A → Type 0
IsWasNull (Ok v) = ⊥
IsWasNull (Err r) = r ≡ was_null

-- NULL gives WasNull, and bytes are read by `reads`
abbrev pub NotNull : {A : Type 0} → (List ℕ → Outcome A → Type 0) → Cell → Outcome A → Type 0
NotNull reads None outcome = IsWasNull outcome
NotNull reads (Some b) outcome = reads b outcome

-- what a cell gives in a plain format
abbrev pub ReadsPlain : {A : Type 0} → (List ℕ → A → Type 0) → (List ℕ → Option Refusal) → Cell → Outcome A → Type 0
ReadsPlain form first_fault = NotNull (Decodes form first_fault)

-- a format is a grammar: bytes that spell a value pass every check, and spell no other value
pub record IsGrammar {A : Type 0} (same : A → A → Type 0) (form : List ℕ → A → Type 0)
    (first_fault : List ℕ → Option Refusal) : Type 0 where
  pub passes : (b : List ℕ) (v : A) → form b v → first_fault b ≡ None
  pub single : (b : List ℕ) (v w : A) → form b v → form b w → same v w

-- the checks of a format are complete: bytes that pass every check spell a value
abbrev pub IsComplete : {A : Type 0} → (List ℕ → A → Type 0) → (List ℕ → Option Refusal) → Type 0
IsComplete {A} form first_fault = (b : List ℕ) → AreBytes b → first_fault b ≡ None → (v : A) × form b v
