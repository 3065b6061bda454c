-- The binary format of COPY (documentation of the command COPY, "Binary Format").
use Rattle.std.specs.Prelude.{◌≡◌, ℕ, pos, List, [], ◌∷◌, ◌++◌, length, Option, Some, None, nat_lt, if◌then◌else◌}
use Rattle.std.specs.Int.{w16}
use Rattle.pg_base.specs.Cells.{Cell, be, concat, frame, frames}

-- the signature, with which a COPY begins
abbrev pub signature : List ℕ
signature = 80 ∷ 71 ∷ 67 ∷ 79 ∷ 80 ∷ 89 ∷ 10 ∷ 255 ∷ 13 ∷ 10 ∷ 0 ∷ []

-- the signature, four bytes of flags, of which the critical ones in the first two are not set, and the header
-- extension, after its length
abbrev pub IsHeader : List ℕ → Type 0
IsHeader s =
    (a b : ℕ) × (extension framed : List ℕ) × (frame (Some extension) ≡ Some framed)
    × (s ≡ signature ++ 0 ∷ 0 ∷ a ∷ b ∷ framed)

-- the signature, no flag set, and an empty header extension
abbrev pub header : List ℕ
header =
    80 ∷ 71 ∷ 67 ∷ 79 ∷ 80 ∷ 89 ∷ 10 ∷ 255 ∷ 13 ∷ 10 ∷ 0 ∷ 0 ∷ 0 ∷ 0 ∷ 0 ∷ 0 ∷ 0 ∷ 0 ∷ 0 ∷ []

-- a number of columns in two bytes; a row has at most 32,767
abbrev pub column_count : ℕ → Option (List ℕ)
column_count n = if nat_lt n 32768 then Some (be w16 (pos n)) else None

-- the tuple of a row: the number of its columns, and the frame of each cell
abbrev pub tuple : List Cell → Option (List ℕ)
tuple row = concat (column_count (length row)) (frames row)

-- the tuples of rows, one after another
abbrev pub tuples : List (List Cell) → Option (List ℕ)
tuples [] = Some []
tuples (row ∷ rows) = concat (tuple row) (tuples rows)

-- -1 instead of a number of columns
abbrev pub trailer : List ℕ
trailer = 255 ∷ 255 ∷ []

-- a header and the tuples of these rows
abbrev pub BeginsCopy : List (List Cell) → List ℕ → Type 0
BeginsCopy rows s =
    (header bytes : List ℕ) × IsHeader header × (tuples rows ≡ Some bytes) × (s ≡ header ++ bytes)

-- the COPY of these rows: a header, their tuples, and the trailer
abbrev pub IsCopy : List (List Cell) → List ℕ → Type 0
IsCopy rows s = (t : List ℕ) × BeginsCopy rows t × (s ≡ t ++ trailer)

-- however these bytes go on, they are no COPY
abbrev pub IsNoCopy : List ℕ → Type 0
IsNoCopy s = (more : List ℕ) (rows : List (List Cell)) → IsCopy rows (s ++ more) → ⊥

-- s is the number of n columns and then the fields
abbrev pub CountThen : List ℕ → ℕ → List ℕ → Type 0
CountThen s n fields = (count : List ℕ) × (column_count n ≡ Some count) × (s ≡ count ++ fields)

-- s is the frame of a cell and then rest
abbrev pub FrameThen : List ℕ → List ℕ → Type 0
FrameThen s rest = (cell : Cell) × (bytes : List ℕ) × (frame cell ≡ Some bytes) × (s ≡ bytes ++ rest)

-- s is the frames of n cells, one after another, and then rest
abbrev pub FramesThen : List ℕ → ℕ → List ℕ → Type 0
FramesThen s n rest =
    (cells : List Cell) × (bytes : List ℕ) × (length cells ≡ n) × (frames cells ≡ Some bytes) × (s ≡ bytes ++ rest)
