-- Writing parameters of any types.
use Rattle.std.specs.Prelude.{◌≡◌, ℕ, ◌+◌, ◌++◌, List, length, take, drop, Some, None, Result, Ok, Err, IfSome}
use Rattle.std.specs.Prelude.{[], ◌∷◌, ◌<◌, Bool, IfNone, IsOk, is_none, slice_get, ⊤}
use Rattle.pg_base.specs.Appending.{Wire}
use Rattle.pg_base.specs.Arrays.{has_null}
use Rattle.pg_base.specs.Cells.{Cell, frame, frames}
use Rattle.pg_base.specs.Counts.{number_width}
use Rattle.pg_types.specs.Faults.{refusal_of}
use Rattle.pg_types.specs.declared.fault.Fault.{Fault}
use Rattle.pg_types.specs.declared.fault.Fault.TheVariants.{Transmit}
use Rattle.pg_write.specs.ArrayWriting.{element_cells, element_frame_cell}
use Rattle.pg_write.specs.Writing.{appended_len}

-- the frame of the cell that was written follows the old bytes
pub record FrameFollows (w : Wire) (old new : List ℕ) : Type 0 where
  -- the cell
  pub cell : Cell
  -- the bytes of its frame
  pub bytes : List ℕ
  -- it is what was written
  pub cell_is : w ≡ Ok cell
  -- these bytes are its frame
  pub frame_is : frame cell ≡ Some bytes
  -- the bytes follow the old bytes
  pub is : new ≡ old ++ bytes

-- the frame of the cell was appended; or the cell is refused with this fault or has no frame, or memory ran out, and
-- the bytes are as they were
abbrev pub AppendsFrame : Wire → List ℕ → List ℕ → Result ⊤ Fault → Type 0
AppendsFrame w old new (Ok done) = FrameFollows w old new
AppendsFrame w old new (Err f) = (new ≡ old) × IfSome (refusal_of f) (λ r. element_frame_cell w ≡ Err r)

-- the same, but after an error the part of the frame that was written follows the old bytes
abbrev pub AppendsFrameOrPart : Wire → List ℕ → List ℕ → Result ⊤ Fault → Type 0
AppendsFrameOrPart w old new (Ok done) = AppendsFrame w old new (Ok done)
AppendsFrameOrPart w old new (Err f) = (take (length old) new ≡ old)
    × IfSome (refusal_of f) (λ r. element_frame_cell w ≡ Err r)

-- the same of an element, of which it is said whether its cell is NULL
abbrev pub AppendsElement : Wire → List ℕ → List ℕ → Result Bool Fault → Type 0
AppendsElement w old new (Ok null) = (f : FrameFollows w old new) × (is_none f.cell ≡ null)
AppendsElement w old new (Err f) = (take (length old) new ≡ old)
    × IfSome (refusal_of f) (λ r. element_frame_cell w ≡ Err r)

-- how many bytes the frame of a written form takes
abbrev pub frame_len : Wire → ℕ
frame_len w = number_width + appended_len w

-- the length of the frames of the written forms of values
abbrev pub frames_len : {A : Type 0} → (A → Wire) → List A → ℕ
frames_len wire [] = 0
frames_len wire (v ∷ vs) = frame_len (wire v) + frames_len wire vs

-- memory ran out only if there was less room than this number of bytes
abbrev pub HadNoRoom : ℕ → ℕ → Fault → Type 0
HadNoRoom len room f = IfNone (refusal_of f) (room < len)

-- the bytes after place n and a length prefix got their length at n; or they have no frame
abbrev pub FramesFrom : ℕ → List ℕ → List ℕ → Result ⊤ Fault → Type 0
FramesFrom n old new (Ok done) = (b : List ℕ) × (frame (Some (drop (n + number_width) old)) ≡ Some b)
    × (new ≡ take n old ++ b)
FramesFrom n old new (Err f) = (new ≡ old) × (f ≡ Transmit) × (frame (Some (drop (n + number_width) old)) ≡ None)

-- the frames of the parameters' cells follow the old bytes
pub record FramesFollow {A : Type 0} (wire : A → Wire) (vs : List A) (old new : List ℕ) : Type 0 where
  -- the cells
  pub cells : List Cell
  -- the bytes of their frames
  pub bytes : List ℕ
  -- they are the cells of the parameters
  pub cells_are : element_cells wire vs ≡ Ok cells
  -- the bytes are their frames
  pub frames_are : frames cells ≡ Some bytes
  -- the bytes follow the old bytes
  pub is : new ≡ old ++ bytes

-- the frames of the elements' cells were appended, and it is said whether a cell is NULL; or an element is refused with
-- this fault or has no frame, or memory ran out, and what was written so far follows the old bytes
abbrev pub AppendsFrames : {A : Type 0} → (A → Wire) → List A → List ℕ → List ℕ → Result Bool Fault → Type 0
AppendsFrames wire vs old new (Ok null) = (f : FramesFollow wire vs old new) × (has_null f.cells ≡ null)
AppendsFrames wire vs old new (Err f) = (take (length old) new ≡ old)
    × IfSome (refusal_of f) (λ r. element_cells wire vs ≡ Err r)

-- the frames of the cells of the parameters were appended. Or, at index p: the parameters before it have cells with
-- frames, the one at p is refused with this fault or has no frame, or memory ran out, and the bytes are as they were
abbrev pub Binds : {A : Type 0} → (A → Wire) → List A → List ℕ → List ℕ → Result ⊤ (ℕ × Fault) → Type 0
Binds wire vs old new (Ok done) = FramesFollow wire vs old new
Binds {A} wire vs old new (Err (p, f)) =
    (new ≡ old) × IsOk (element_cells wire (take p vs))
    × ((v : A) × (slice_get vs p ≡ Some v) × IfSome (refusal_of f) (λ r. element_frame_cell (wire v) ≡ Err r))
