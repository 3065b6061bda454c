-- How the code rewrites the elements of arrays.
use Rattle.std.specs.Prelude.{◌≡◌, ◌≤◌, ◌++◌, ℕ, zero, suc, ℤ, pos, negsuc, List, [], ◌∷◌, length, drop, Bool}
use Rattle.std.specs.Prelude.{Option, Some, None, Result, Ok, Err, if◌then◌else◌}
use Rattle.pg_base.specs.Arrays.{has_null}
use Rattle.pg_base.specs.Cells.{Cell, frame, frames}
use Rattle.pg_base.specs.Counts.{after_cell, bytes_in, cell_checks, no_trailing, number_in}
use Rattle.pg_base.specs.Formats.{first_fault_of}
use Rattle.pg_cells_c.specs.Kinds.{rewritten}
use Rattle.pg_cells_c.specs.declared.rewrite.elements.Frames.{Frames}
use Rattle.pg_cells_c.specs.declared.rewrite.kinds.Kind.{Kind}
use Rattle.pg_types.specs.Faults.{Outcome, Refusal, number_of, was_null}

-- a cell of these bytes, or NULL if its length is negative
abbrev pub cell_by : ℤ → List ℕ → Cell
cell_by (pos n) x = Some x
cell_by (negsuc n) x = None

-- the cell that bytes begin with
abbrev pub cell_in : List ℕ → Cell
cell_in s = cell_by (number_in s) (bytes_in s)

-- the fault, or if there is none the outcome
abbrev pub unless : {A : Type 0} → Option Refusal → Outcome A → Outcome A
unless None o = o
unless (Some r) o = Err r

-- bytes as a cell
abbrev pub some_cell : Outcome (List ℕ) → Outcome Cell
some_cell (Ok c) = Ok (Some c)
some_cell (Err r) = Err r

-- what an element is rewritten to; nullable is whether an element of the array may be NULL
abbrev pub rewritten_cell : Kind → Bool → Cell → Outcome Cell
rewritten_cell k nullable None = if nullable then Ok None else Err was_null
rewritten_cell k nullable (Some b) = some_cell (rewritten k b)

-- cells before others, or the fault
abbrev pub prepend : List Cell → Outcome (List Cell) → Outcome (List Cell)
prepend ds (Ok es) = Ok (ds ++ es)
prepend ds (Err r) = Err r

-- a cell before others, or the first fault
abbrev pub cons_cell : Outcome Cell → Outcome (List Cell) → Outcome (List Cell)
cons_cell (Ok d) o = prepend (d ∷ []) o
cons_cell (Err r) o = Err r

-- what n elements are rewritten to
abbrev pub rewritten_cells : Kind → Bool → ℕ → List ℕ → Outcome (List Cell)
rewritten_cells k nullable zero s = unless (first_fault_of (no_trailing s ∷ [])) (Ok [])
rewritten_cells k nullable (suc n) s =
    unless (first_fault_of (cell_checks s))
    (cons_cell (rewritten_cell k nullable (cell_in s)) (rewritten_cells k nullable n (after_cell s)))

-- the bytes are at the front of the buffer if there is room for them
abbrev pub FitsInto : List ℕ → List ℕ → List ℕ → Type 0
FitsInto s old new = length s ≤ length old → new ≡ s ++ drop (length s) old

-- the frame of a cell was written if there was room for it, and the result is its length; or the result is the number
-- of the fault
unfoldable pub WritesFrame : Outcome Cell → List ℕ → List ℕ → Result ℕ ℕ → Type 0
WritesFrame (Ok d) old new (Ok n) = (s : List ℕ) × (frame d ≡ Some s) × (n ≡ length s) × FitsInto s old new
WritesFrame (Ok d) old new (Err n) = ⊥
WritesFrame (Err r) old new (Ok n) = ⊥
WritesFrame (Err r) old new (Err n) = n ≡ number_of r

-- the frames of cells, and whether they were written
pub record AreFrames (ds : List Cell) (old new : List ℕ) (f : Frames) : Type 0 where
  -- the bytes
  pub bytes : List ℕ
  -- they are the frames of the cells
  pub are : frames ds ≡ Some bytes
  -- their number
  pub count : f.count ≡ length ds
  -- their length
  pub len : f.len ≡ length bytes
  -- whether one of them is that of NULL
  pub null : f.has_null ≡ has_null ds
  -- they were written if there was room for them
  pub fits : FitsInto bytes old new

-- the frames of cells were written if there was room for them; or the result is the number of the first fault
unfoldable pub WritesFrames : Outcome (List Cell) → List ℕ → List ℕ → Result Frames ℕ → Type 0
WritesFrames (Ok ds) old new (Ok f) = AreFrames ds old new f
WritesFrames (Ok ds) old new (Err n) = ⊥
WritesFrames (Err r) old new (Ok f) = ⊥
WritesFrames (Err r) old new (Err n) = n ≡ number_of r
