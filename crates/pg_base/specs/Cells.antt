-- Cells, their frames, and consecutive cells. PostgreSQL frames values in this way in DataRow and Bind ("Message
-- Formats" in its documentation), and in array_send, record_send and hstore_send: a length of four bytes, -1 for NULL,
-- and as many bytes. That every negative length is NULL in reading is the rule of the Rust crate postgres-types; the
-- server itself writes only -1.
use Rattle.std.specs.Prelude.{Bool, true, false, ◌≡◌, ℕ, ◌<◌, ◌≤◌, ◌^◌, ℤ, pos, negsuc, List, [], ◌∷◌, ◌++◌, length}
use Rattle.std.specs.Prelude.{Option, Some, None, ◌⊎◌, FitsSigned, if◌then◌else◌, nat_le, option_map, slice_index}
use mir.Val.{bits}
use Rattle.std.specs.Borrow.{Bor}
use Rattle.std.specs.Int.{Width, w32, to_be_bytes, from_be_bytes, cast_signed, cast_unsigned}

-- every number of the list is a byte
abbrev pub AreBytes : List ℕ → Type 0
AreBytes s = (i : ℕ) → slice_index s i < 256

-- a cell: NULL, or a list of bytes
abbrev pub Cell : Type 0
Cell = Option (List ℕ)

-- the bytes of the cell of a text: the text, after the version 1 if cells of the type have a version
abbrev pub versioned_cell : Bool → List ℕ → List ℕ
versioned_cell false text = text
versioned_cell true text = 1 ∷ text

-- the cell that is passed to a call
abbrev pub cell_of : Option (Bor (List ℕ)) → Cell
cell_of None = None
cell_of (Some bytes) = Some bytes.now

-- the bytes of a signed number in a width, big-endian, in two's complement (pq_sendint32 and similar); outside the
-- range of the width they are those of another number, so definitions use IsBe
abbrev pub be : Width → ℤ → List ℕ
be w z = to_be_bytes w (cast_unsigned w z)

-- b is the bytes of z, which fits in the width
abbrev pub IsBe : Width → List ℕ → ℤ → Type 0
IsBe w b z = FitsSigned w z × (b ≡ be w z)

-- the number that bytes spell in the width
abbrev pub signed_in : Width → List ℕ → ℤ
signed_in w b = cast_signed w (from_be_bytes w b)

-- b is the bytes of n, an unsigned number that fits in the width
abbrev pub IsBeUnsigned : Width → List ℕ → ℕ → Type 0
IsBeUnsigned w b n = (n < 2 ^ bits w) × (b ≡ to_be_bytes w n)

-- the greatest length or count: a length prefix is a signed number of four bytes
abbrev pub max_length : ℕ
max_length = 2147483647

-- whether a number fits in a length prefix
abbrev pub fits_prefix : ℕ → Bool
fits_prefix n = nat_le n max_length

-- a length or count in four bytes, and then bytes; None if it does not fit in the prefix
abbrev pub with_prefix : ℕ → List ℕ → Option (List ℕ)
with_prefix n b = if fits_prefix n then Some (be w32 (pos n) ++ b) else None

-- the frame of a cell: its length in four bytes, then its bytes; for NULL the length -1. A cell whose length does not
-- fit has no frame
abbrev pub frame : Cell → Option (List ℕ)
frame None = Some (be w32 (negsuc 0))
frame (Some b) = with_prefix (length b) b

-- s spells a cell: it is the cell's frame, and every negative length spells NULL
abbrev pub Spells : List ℕ → Cell → Type 0
Spells s None = (n : ℕ) × IsBe w32 s (negsuc n)
Spells s (Some b) = frame (Some b) ≡ Some s

-- no prefix of s spells a cell
abbrev pub SpellsNone : List ℕ → Type 0
SpellsNone s = (t rest : List ℕ) (c : Cell) → s ≡ t ++ rest → Spells t c → ⊥

-- s is some first bytes and then the rest, and each of them has its property
pub record FrontAndRest (Front Rest : List ℕ → Type 0) (s : List ℕ) : Type 0 where
  -- the first bytes
  pub front : List ℕ
  -- the bytes after them
  pub rest : List ℕ
  -- they follow one another
  pub is : s ≡ front ++ rest
  -- the property of the first bytes
  pub spells : Front front
  -- the property of the rest
  pub rest_spells : Rest rest

-- s is spellings of the cells, one after another, and then rest
abbrev pub SpellsAll : List ℕ → List Cell → List ℕ → Type 0
SpellsAll s [] rest = s ≡ rest
SpellsAll s (c ∷ cs) rest = FrontAndRest (λ t. Spells t c) (λ u. SpellsAll u cs rest) s

-- s begins with the cells cs, and then comes rest: there are n cells, or fewer if no further cell is complete
abbrev pub CellsInRow : List ℕ → ℕ → List Cell → List ℕ → Type 0
CellsInRow s n cs rest = SpellsAll s cs rest × (length cs ≤ n) × ((length cs ≡ n) ⊎ SpellsNone rest)

-- the first bytes and then the second, if both exist
abbrev pub concat : Option (List ℕ) → Option (List ℕ) → Option (List ℕ)
concat None r = None
concat (Some a) r = option_map (λ b. a ++ b) r

-- the frames of cells, one after another, if each cell has one
abbrev pub frames : List Cell → Option (List ℕ)
frames [] = Some []
frames (c ∷ cs) = concat (frame c) (frames cs)

-- the frames of cells determine the cells
abbrev pub FramesSingle : Type 0
FramesSingle = (cs ds : List Cell) (b : List ℕ) → frames cs ≡ Some b → frames ds ≡ Some b → cs ≡ ds

-- the frames of cells, followed by any bytes, determine the cells if their number is known
abbrev pub FramePrefixesSingle : Type 0
FramePrefixesSingle =
    (cs ds : List Cell) (a b s t : List ℕ) → length cs ≡ length ds → frames cs ≡ Some a → frames ds ≡ Some b → a ++ s
    ≡ b ++ t → (cs ≡ ds) × (s ≡ t)
