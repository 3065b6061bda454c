-- Reading consecutive framed cells from the front of a slice: the result, and where the slice begins then.
use Rattle.std.specs.Prelude.{◌≡◌, ◌⊎◌, ◌<◌, ◌-◌, ◌/◌, min, ℕ, List, [], ◌∷◌, ◌++◌, length, Option, Some, None, Result, Ok, Err}
use Rattle.pg_base.specs.Cells.{Cell, SpellsAll, frames}
use Rattle.pg_types.specs.Faults.{Refusal, Outcome, refusal_of, size}
use Rattle.pg_base.specs.Sameness.{SameList}
use Rattle.pg_types.specs.declared.fault.Fault.{Fault}
use Rattle.pg_read.specs.FrameReading.{BeginsWithCells, after_truncated}
use Rattle.pg_read.specs.ArrayReading.{ReadsAll}

-- from the start to now these cells were read as these values
pub record HaveBeenRead {A : Type 0} (reads : Cell → Outcome A → Type 0) (start : List ℕ) (cs : List Cell)
    (vs : List A) (now : List ℕ) : Type 0 where
  pub spelled : SpellsAll start cs now
  pub values : ReadsAll reads cs (Ok vs)

-- the slice begins after the first cells, which are ds
abbrev pub StandsAfter : List ℕ → List Cell → List Cell → List ℕ → Type 0
StandsAfter old cs ds new = (es : List Cell) × (cs ≡ ds ++ es) × SpellsAll old ds new

-- the first cell that is refused is refused with r, and the slice begins after it
pub record StopsRefused {A : Type 0} (reads : Cell → Outcome A → Type 0) (old : List ℕ) (cs : List Cell) (r : Refusal)
    (new : List ℕ) : Type 0 where
  -- the cells before it
  pub before : List Cell
  -- the cell
  pub cell : Cell
  -- the values of the cells before it
  pub values : List A
  -- those cells are read as these values
  pub reads_before : ReadsAll reads before (Ok values)
  -- the cell is refused
  pub refuses : reads cell (Err r)
  -- the slice begins after it
  pub stands : StandsAfter old cs (before ++ cell ∷ []) new

-- each cell that is there gives a value, and they are fewer than n: the result is Size, and the slice begins where the
-- truncated cell after them leaves it
pub record StopsTruncated {A : Type 0} (reads : Cell → Outcome A → Type 0) (n : ℕ) (cs : List Cell) (rest : List ℕ)
    (r : Refusal) (new : List ℕ) : Type 0 where
  -- the values
  pub values : List A
  -- the cells are read as these values
  pub reads_all : ReadsAll reads cs (Ok values)
  -- they are fewer than n
  pub fewer : length cs < n
  -- the result is Size
  pub refusal_is : r ≡ size
  -- the slice begins where the truncated cell leaves it
  pub stands : new ≡ after_truncated rest

-- memory runs out: the slice begins after some first cells that each give a value and one more cell, whose value was
-- not read or not kept
pub record StopsOutOfMemory {A : Type 0} (reads : Cell → Outcome A → Type 0) (old : List ℕ) (cs : List Cell)
    (new : List ℕ) : Type 0 where
  -- the first cells
  pub before : List Cell
  -- the one more cell
  pub cell : Cell
  -- the values of the first cells
  pub values : List A
  -- those cells are read as these values
  pub reads_before : ReadsAll reads before (Ok values)
  -- the slice begins after the one more cell
  pub stands : StandsAfter old cs (before ++ cell ∷ []) new

-- the fault with which n cells are not read, and where the slice begins then
abbrev pub RunStops : {A : Type 0} → (Cell → Outcome A → Type 0) → List ℕ → ℕ → List Cell → List ℕ → Option Refusal
    → List ℕ → Type 0
RunStops reads old n cs rest None new = StopsOutOfMemory reads old cs new
RunStops reads old n cs rest (Some r) new = StopsRefused reads old cs r new ⊎ StopsTruncated reads n cs rest r new

-- what n consecutive cells are read as: the values of all of them, and the slice begins after them, or they stop
abbrev pub RunEnds : {A X : Type 0} → (X → List A) → (Cell → Outcome A → Type 0) → List ℕ → ℕ → List Cell → List ℕ
    → Result X Fault → List ℕ → Type 0
RunEnds items reads old n cs rest (Ok x) new = (length cs ≡ n) × ReadsAll reads cs (Ok (items x)) × (new ≡ rest)
RunEnds items reads old n cs rest (Err f) new = RunStops reads old n cs rest (refusal_of f) new

-- n framed cells were read
abbrev pub ReadsRun : {A X : Type 0} → (X → List A) → (Cell → Outcome A → Type 0) → List ℕ → ℕ → Result X Fault
    → List ℕ → Type 0
ReadsRun items reads old n result new =
    BeginsWithCells (λ cs rest. RunEnds items reads old n cs rest result new) old n

-- the room of a list of n values after the first was read, from the slice before it and after it: for as many as there
-- are bytes, if the frame of each has the length of the first
abbrev pub first_room : ℕ → List ℕ → List ℕ → ℕ
first_room n old new = min n (length old / (length old - length new))

-- the result is these values, with s left, unless memory ran out
abbrev pub AnswersValues : {A X : Type 0} → (X → List A) → (A → A → Type 0) → List A → List ℕ → Result X Fault → List ℕ
    → Type 0
AnswersValues items same vs s (Ok x) new = SameList same (items x) vs × (new ≡ s)
AnswersValues items same vs s (Err f) new = refusal_of f ≡ None

-- the frames of n cells that each give a value were read as these values, and the bytes after them are left
abbrev pub ReadsFrames : {A X : Type 0} → (X → List A) → (A → A → Type 0) → (Cell → Outcome A → Type 0) → List ℕ → ℕ
    → Result X Fault → List ℕ → Type 0
ReadsFrames {A} items same reads old n result new =
    (cs : List Cell) (b s : List ℕ) (vs : List A) → frames cs ≡ Some b → old ≡ b ++ s → length cs ≡ n
    → ReadsAll reads cs (Ok vs)
    → AnswersValues items same vs s result new
