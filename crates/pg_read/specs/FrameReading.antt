-- Reading framed cells from the front of a slice: the result, and where the slice begins then.
use Rattle.std.specs.Prelude.{◌≡◌, ℕ, ℤ, ◌<◌, nat_lt, if◌then◌else◌, List, [], ◌∷◌, ◌++◌, length, Option}
use Rattle.std.specs.Prelude.{Some, Result, Ok, Err}
use Rattle.std.specs.Borrow.{Bor}
use Rattle.std.specs.Int.{w32}
use Rattle.pg_base.specs.Cells.{Cell, cell_of, IsBe, Spells, SpellsNone, CellsInRow}
use Rattle.pg_base.specs.Counts.{after_number, number_width}
use Rattle.pg_types.specs.Faults.{Outcome, Answers, NeverMemory, refusal_of, size}
use Rattle.pg_types.specs.declared.fault.Fault.{Fault}

-- the result is Size
abbrev pub AnswersSize : {A : Type 0} → Result A Fault → Type 0
AnswersSize (Ok v) = ⊥
AnswersSize (Err f) = refusal_of f ≡ Some size

-- the first four bytes were taken, as a number; if there are fewer, the result is Size, and nothing was taken
abbrev pub TakesNumber : List ℕ → Result ℤ Fault → List ℕ → Type 0
TakesNumber old (Ok n) new = (s : List ℕ) × (old ≡ s ++ new) × IsBe w32 s n
TakesNumber old (Err f) new = (length old < number_width) × (refusal_of f ≡ Some size) × (new ≡ old)

-- where a slice begins after its first cell was found truncated: at its start if the length is truncated, and otherwise
-- after the length
abbrev pub after_truncated : List ℕ → List ℕ
after_truncated s = if nat_lt (length s) number_width then s else after_number s

-- the first cell was taken; if it is truncated, the result is Size
abbrev pub TakesCell : List ℕ → Result (Option (Bor (List ℕ))) Fault → List ℕ → Type 0
TakesCell old (Ok raw) new = (s : List ℕ) × (old ≡ s ++ new) × Spells s (cell_of raw)
TakesCell old (Err f) new = SpellsNone old × (refusal_of f ≡ Some size) × (new ≡ after_truncated old)

-- if no cell is complete, the result is Size; otherwise it is an outcome of the first cell, never Memory if reading it
-- does not allocate, and the slice begins after the cell
abbrev pub ReadsFirst : {A : Type 0} → (Cell → Outcome A → Type 0) → (Cell → Type 0) → List ℕ → List Cell → List ℕ
    → Result A Fault → List ℕ → Type 0
ReadsFirst reads memory_free old [] rest result new = AnswersSize result × (new ≡ after_truncated old)
ReadsFirst reads memory_free old (c ∷ cs) rest result new =
    Answers (reads c) result × (memory_free c → NeverMemory result) × (new ≡ rest)

-- s begins with cells, n or fewer if no further one is complete, and this holds of them and of the rest
pub record BeginsWithCells (Holds : List Cell → List ℕ → Type 0) (s : List ℕ) (n : ℕ) : Type 0 where
  -- the cells
  pub cells : List Cell
  -- the bytes after them
  pub rest : List ℕ
  -- s is these cells and then the rest
  pub in_row : CellsInRow s n cells rest
  -- this holds of them and of the rest
  pub holds : Holds cells rest

-- the first framed cell of the slice was read
abbrev pub ReadsFrame : {A : Type 0} → (Cell → Outcome A → Type 0) → (Cell → Type 0) → List ℕ → Result A Fault → List ℕ
    → Type 0
ReadsFrame reads memory_free old result new =
    BeginsWithCells (λ cs rest. ReadsFirst reads memory_free old cs rest result new) old 1
