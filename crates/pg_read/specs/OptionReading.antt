-- Reading an option.
use Rattle.std.specs.Prelude.{Option, Some, None, Ok, Err}
use Rattle.pg_base.specs.Cells.{Cell}
use Rattle.pg_types.specs.Faults.{Outcome}

-- the outcome None
abbrev pub IsNoneOutcome : {A : Type 0} → Outcome (Option A) → Type 0
IsNoneOutcome (Ok None) = Unit {0}
IsNoneOutcome (Ok (Some v)) = ⊥
IsNoneOutcome (Err r) = ⊥

-- NULL gives None, and bytes give Some of their value, or its fault
abbrev pub ReadsOption : {A : Type 0} → (Cell → Outcome A → Type 0) → Cell → Outcome (Option A) → Type 0
ReadsOption reads None outcome = IsNoneOutcome outcome
ReadsOption reads (Some b) (Ok None) = ⊥
ReadsOption reads (Some b) (Ok (Some v)) = reads (Some b) (Ok v)
ReadsOption reads (Some b) (Err r) = reads (Some b) (Err r)
