-- Definitions on options.
use Rattle.std.specs.Prelude.{Option, Some, None}

-- None, or a value of which P holds
abbrev pub NoneOr : {A : Type 0} → (A → Type 0) → Option A → Type 0
NoneOr P None = Unit {0}
NoneOr P (Some v) = P v
