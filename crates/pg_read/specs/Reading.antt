-- What reading is: a relation between a cell and its outcome.
use Rattle.std.specs.Prelude.{◌≡◌, Some, None, Ok, Err}
use Rattle.pg_base.specs.Cells.{Cell}
use Rattle.pg_types.specs.Faults.{Outcome}

-- two outcomes are the same value, or the same fault
abbrev pub SameOutcome : {A : Type 0} → (A → A → Type 0) → Outcome A → Outcome A → Type 0
SameOutcome same (Ok a) (Ok b) = same a b
SameOutcome same (Ok a) (Err r) = ⊥
SameOutcome same (Err r) (Ok b) = ⊥
SameOutcome same (Err r) (Err s) = r ≡ s

-- there is at most one outcome
abbrev pub GivesSingle : {A : Type 0} → (A → A → Type 0) → (Outcome A → Type 0) → Type 0
GivesSingle same gives = (r s : _) → gives r → gives s → SameOutcome same r s

-- a cell has at most one outcome
abbrev pub ReadsSingle : {A : Type 0} → (A → A → Type 0) → (Cell → Outcome A → Type 0) → Type 0
ReadsSingle same reads = (c : Cell) → GivesSingle same (reads c)

-- `memory_free` of a type that never allocates: it holds of every cell
abbrev pub EveryCell : Cell → Type 0
EveryCell c = Unit {0}

-- `memory_free` of a type that allocates for bytes only: it holds of NULL
abbrev pub NullAlone : Cell → Type 0
NullAlone None = Unit {0}
NullAlone (Some b) = ⊥
