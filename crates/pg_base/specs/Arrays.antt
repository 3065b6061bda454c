-- Arrays (array_send, array_recv): a header, and then the frames of the elements. The header has, in four bytes each,
-- the number of dimensions, the flags, the OID of the element type and, for each dimension, its length and its lower
-- bound.
use Rattle.std.specs.Prelude.{◌≡◌, ℕ, zero, suc, List, [], ◌∷◌, ◌++◌, length, drop, Option, false, nat_le, Result}
use Rattle.std.specs.Prelude.{Some, None, ◌+◌, take, not, ℤ, pos, option_map, Bool, ◌||◌, is_none, if◌then◌else◌}
use Rattle.std.specs.Borrow.{Bor}
use Rattle.std.specs.List.{list_any}
use Rattle.std.specs.Option.{unwrap_or}
use Rattle.pg_types.specs.declared.fault.Fault.{Fault}
use Rattle.pg_base.specs.Cells.{Cell, cell_of, Spells, CellsInRow, be, fits_prefix, frames, concat}
use Rattle.pg_base.specs.Counts.{IsCount, TakesNext, ToRead, cell_checks, count_checks, not_negative, number_in}
use Rattle.pg_base.specs.Counts.{after_number, count_or_zero, count_bytes, number_width}
use Rattle.pg_types.specs.Faults.{size, count, dimensions}
use Rattle.pg_base.specs.Formats.{Checks}
use Rattle.std.specs.Int.{w32, to_be_bytes}

-- the number of bytes of two numbers: the flags and the OID, or a length and a lower bound
abbrev pub pair_width : ℕ
pair_width = 8

-- s is a dimension and then what is to be read: the dimension states the number of elements, with any lower bound
pub record SpellsDimension (s : List ℕ) (r : ToRead) : Type 0 where
  -- the bytes of its length
  pub length_bytes : List ℕ
  -- those of its lower bound
  pub lower_bound_bytes : List ℕ
  -- these follow one another, and then the elements
  pub is : s ≡ length_bytes ++ (lower_bound_bytes ++ r.bytes)
  -- the length is the number of elements
  pub counts : IsCount length_bytes r.left
  -- the lower bound has the width of a number
  pub width : length lower_bound_bytes ≡ number_width

-- s is this number of dimensions and then what is to be read: without a dimension there are no elements
abbrev pub SpellsDimensions : ℕ → List ℕ → ToRead → Type 0
SpellsDimensions zero s r = (r.left ≡ 0) × (s ≡ r.bytes)
SpellsDimensions (suc zero) s r = SpellsDimension s r
SpellsDimensions (suc (suc d)) s r = ⊥

-- b is a header, with any flags and any OID, and then what is to be read
pub record SpellsHead (b : List ℕ) (r : ToRead) : Type 0 where
  -- the number of dimensions
  pub dimension_count : ℕ
  -- the bytes of that number
  pub count_prefix : List ℕ
  -- the bytes of the flags and of the OID
  pub flags_and_oid : List ℕ
  -- the bytes after them
  pub remaining : List ℕ
  -- they follow one another
  pub is : b ≡ count_prefix ++ (flags_and_oid ++ remaining)
  -- these bytes are the number
  pub counts : IsCount count_prefix dimension_count
  -- the flags and the OID have the width of two numbers
  pub width : length flags_and_oid ≡ pair_width
  -- the dimensions come next
  pub spells : SpellsDimensions dimension_count remaining r

-- the checks of this number of dimensions
abbrev pub dimension_checks : ℕ → List ℕ → Checks
dimension_checks zero s = []
dimension_checks (suc zero) s = (nat_le pair_width (length s), size) ∷ (not_negative (number_in s), count) ∷ []
dimension_checks (suc (suc d)) s = (false, dimensions) ∷ []

-- the checks of a header, in the order of its bytes
abbrev pub head_checks : List ℕ → Checks
head_checks b =
    count_checks b ++ (nat_le pair_width (length (after_number b)), size)
    ∷ dimension_checks (count_or_zero (number_in b)) (drop pair_width (after_number b))

-- b is the bytes of an array: a header that states n elements, then the cells cs, and then rest
abbrev pub ArrayBody : List ℕ → ℕ → List Cell → List ℕ → Type 0
ArrayBody b n cs rest = (s : List ℕ) × SpellsHead b (record { left = n; bytes = s }) × CellsInRow s n cs rest

-- a step of reading: the next cell was taken
abbrev pub TakesElement : ToRead → Option (Result (Option (Bor (List ℕ))) Fault) → ToRead → Type 0
TakesElement = TakesNext (λ s raw. Spells s (cell_of raw)) cell_checks

-- how many bytes cells of these lengths have in all; NULL has none
abbrev pub total_len : List (Option ℕ) → ℕ
total_len [] = 0
total_len (None ∷ lens) = total_len lens
total_len (Some n ∷ lens) = n + total_len lens

-- the cells of these lengths, whose bytes stand one after another; a cell without a length is NULL
abbrev pub cells_of : List ℕ → List (Option ℕ) → List Cell
cells_of bytes [] = []
cells_of bytes (None ∷ lens) = None ∷ cells_of bytes lens
cells_of bytes (Some n ∷ lens) = Some (take n bytes) ∷ cells_of (drop n bytes) lens

-- whether one of the lengths is that of NULL
abbrev pub has_none : List (Option ℕ) → Bool
has_none = list_any is_none

-- whether one of the lengths does not fit in a length prefix
abbrev pub has_long : List (Option ℕ) → Bool
has_long = list_any (λ n. not (fits_prefix (unwrap_or n 0)))

-- whether a cell is NULL
abbrev pub has_null : List Cell → Bool
has_null [] = false
has_null (c ∷ cs) = is_none c || has_null cs

-- the flags: 1 if a cell is NULL, and otherwise 0
abbrev pub flags_of : List Cell → ℤ
flags_of cs = if has_null cs then pos 1 else pos 0

-- a header of one dimension: the flags, the OID of the element type, the bytes of the number of cells, and the lower
-- bound
abbrev pub head_bytes : ℤ → ℤ → ℕ → List ℕ → List ℕ
head_bytes flags lower_bound oid n = be w32 (pos 1) ++ be w32 flags ++ to_be_bytes w32 oid ++ n ++ be w32 lower_bound

-- the header that is written, with one dimension whatever the number of cells
abbrev pub array_head : ℤ → ℕ → List Cell → Option (List ℕ)
array_head lower_bound oid cs = option_map (head_bytes (flags_of cs) lower_bound oid) (count_bytes (length cs))

-- the cell of an array: the header, and the frames of the cells of its elements
abbrev pub array_bytes : ℤ → ℕ → List Cell → Option (List ℕ)
array_bytes lower_bound oid cs = concat (array_head lower_bound oid cs) (frames cs)
