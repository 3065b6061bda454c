-- The result of rewriting a cell.
use Rattle.std.specs.Prelude.{◌≡◌, ℕ, List, Result, Ok, Err, IfSome, ◌⊎◌}
use Rattle.pg_types.specs.declared.fault.Fault.{Fault}
use Rattle.pg_types.specs.declared.format.IsNull.{IsNull}
use Rattle.pg_base.specs.Cells.{Cell}
use Rattle.pg_types.specs.Faults.{Outcome, refusal_of}
use Rattle.pg_base.specs.Appending.{Wire}
use Rattle.pg_write.specs.Writing.{Writes}

-- the cell reads as a value, which is written; or the cell is refused, or the value that it reads as, or memory ran
-- out, and the bytes are as they were
abbrev pub Rewrites : {A : Type 0} → (Cell → Outcome A → Type 0) → (A → Wire) → Cell → List ℕ → List ℕ
    → Result IsNull Fault → Type 0
Rewrites {A} reads wire c old new (Ok null) = (v : A) × reads c (Ok v) × Writes (wire v) old new (Ok null)
Rewrites {A} reads wire c old new (Err f) =
    (new ≡ old) × IfSome (refusal_of f) (λ r. reads c (Err r) ⊎ ((v : A) × reads c (Ok v) × (wire v ≡ Err r)))

-- the cell is what v is written as, and reads as v
abbrev pub IsCellOf : {A : Type 0} → (Cell → Outcome A → Type 0) → (A → Wire) → A → Cell → Type 0
IsCellOf reads wire v c = (wire v ≡ Ok c) × reads c (Ok v)

-- rewriting the cell gives it again, or memory runs out
abbrev pub IsRewrittenAsItself : {A : Type 0} → (Cell → Outcome A → Type 0) → (A → Wire) → Cell → Type 0
IsRewrittenAsItself reads wire c =
    (old new : List ℕ) (result : Result IsNull Fault) → Rewrites reads wire c old new result
    → Writes (Ok c) old new result
