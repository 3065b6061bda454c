-- How the code rewrites arrays.
use Rattle.std.specs.Prelude.{◌≡◌, ℕ, ℤ, pos, List, Option, Some, None, Result, Ok, Err, Bool, not, if◌then◌else◌, ◌⊎◌}
use Rattle.std.specs.Int.{w32}
use Rattle.pg_base.specs.Arrays.{SpellsHead, array_bytes, head_bytes, head_checks}
use Rattle.pg_base.specs.Cells.{Cell, be}
use Rattle.pg_base.specs.Counts.{ToRead}
use Rattle.pg_base.specs.Formats.{first_fault_of}
use Rattle.pg_cells_c.specs.Elements.{AreFrames, rewritten_cells}
use Rattle.pg_cells_c.specs.Rewriting.{array_rows, is_vector, row_among}
use Rattle.pg_cells_c.specs.Writings.{WritesInto}
use Rattle.pg_cells_c.specs.declared.rewrite.elements.Frames.{Frames}
use Rattle.pg_cells_c.specs.declared.rewrite.arrays.ArrayType.{ArrayType}
use Rattle.pg_cells_c.specs.declared.rewrite.kinds.Kind.{Kind}
use Rattle.pg_types.specs.BuiltInRows.{row_element, row_oid}
use Rattle.pg_types.specs.Faults.{Outcome, Refusal, number_of}
use Rattle.pg_types.specs.declared.types.built_in.BuiltIn.{BuiltIn as Row}

-- the array type with elements of that type
abbrev pub array_with : Option Row → Bool → Option ArrayType
array_with None vector = None
array_with (Some e) vector = Some (record { element = row_oid e; is_vector = vector })

-- the same for an array type of the catalog
abbrev pub array_by_row : Option Row → Option ArrayType
array_by_row None = None
array_by_row (Some r) = array_with (row_element r) (is_vector r)

-- the array type with that OID
abbrev pub array_at : ℕ → Option ArrayType
array_at oid = array_by_row (row_among array_rows oid)

-- 1 if it is so, and otherwise 0
abbrev pub flag_if : Bool → ℤ
flag_if t = if t then pos 1 else pos 0

-- the header of the array with these frames
abbrev pub head_of : ArrayType → Frames → List ℕ
head_of a f =
    head_bytes (flag_if f.has_null) (flag_if (not a.is_vector)) a.element (be w32 (pos f.count))

-- the first fault of the header or of the elements
abbrev pub FailsWith : Kind → Bool → List ℕ → Refusal → Type 0
FailsWith k nullable b r =
    (first_fault_of (head_checks b) ≡ Some r)
    ⊎ ((h : ToRead) × SpellsHead b h × (rewritten_cells k nullable h.left h.bytes ≡ Err r))

-- what the header and the elements of an array are rewritten to
pub record AreElements (k : Kind) (nullable : Bool) (b : List ℕ) (ds : List Cell) : Type 0 where
  pub head : ToRead
  pub spells : SpellsHead b head
  pub are : rewritten_cells k nullable head.left head.bytes ≡ Ok ds

-- the frames of these were written if there was room for them; or the result is the number of the first fault
unfoldable pub WritesElements : Kind → Bool → List ℕ → List ℕ → List ℕ → Result Frames ℕ → Type 0
WritesElements k nullable b old new (Ok f) = (ds : List Cell) × AreElements k nullable b ds × AreFrames ds old new f
WritesElements k nullable b old new (Err n) = (r : Refusal) × FailsWith k nullable b r × (n ≡ number_of r)

-- what an array is rewritten to
abbrev pub ArrayOutcome : Kind → ArrayType → List ℕ → Outcome (List ℕ) → Type 0
ArrayOutcome k a b (Ok c) =
    (ds : List Cell) × AreElements k (not a.is_vector) b ds
    × (array_bytes (flag_if (not a.is_vector)) a.element ds ≡ Some c)
ArrayOutcome k a b (Err r) = FailsWith k (not a.is_vector) b r

-- it was written if there was room for it; or the result is the number of the fault, and the buffer is unchanged
unfoldable pub WritesArray : Kind → ArrayType → List ℕ → List ℕ → List ℕ → Result ℕ ℕ → Type 0
WritesArray k a b old new (Ok n) = (c : List ℕ) × ArrayOutcome k a b (Ok c) × WritesInto c old new n
WritesArray k a b old new (Err n) = (r : Refusal) × ArrayOutcome k a b (Err r) × (n ≡ number_of r) × (new ≡ old)
