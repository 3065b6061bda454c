-- The offsets of the cells of a row.
use Rattle.std.specs.Prelude.{◌≡◌, ◌≤◌, ◌⊎◌, ℕ, List, length, drop, slice_get, Some, None, Result, Ok, Err, ⊤}
use Rattle.pg_base.specs.Cells.{Cell, SpellsAll}
use Rattle.pg_types.specs.Faults.{refusal_of}
use Rattle.pg_client.specs.Rows.{EndsRow}
use Rattle.pg_client.specs.declared.column.Column.{Column}
use Rattle.pg_client.specs.declared.placed_fault.Place.TheVariants as place
use Rattle.pg_client.specs.declared.placed_fault.PlacedFault.{PlacedFault}

-- n cells stand before this offset of the frames
abbrev pub IsOffset : ℕ → List ℕ → ℕ → Type 0
IsOffset n frames offset =
    (offset ≤ length frames) × (cs : List Cell) × (length cs ≡ n) × SpellsAll frames cs (drop offset frames)

-- the offsets of n frames
abbrev pub HasOffsets : ℕ → List ℕ → List ℕ → Type 0
HasOffsets n frames offsets =
    (length offsets ≡ n) × ((k offset : ℕ) → slice_get offsets k ≡ Some offset → IsOffset k frames offset)

-- n cells were passed, and the offset of each is known; these bytes come after them
abbrev pub FoundTo : ℕ → List ℕ → List ℕ → List ℕ → Type 0
FoundTo n frames offsets rest =
    (cs : List Cell) × (length cs ≡ n) × SpellsAll frames cs rest × HasOffsets n frames offsets

-- why the cells of a row are not found: the row does not end, or memory ran out
abbrev pub IsWhyNotFound : List Column → List ℕ → PlacedFault → Type 0
IsWhyNotFound columns frames f =
    EndsRow columns 0 (length columns) frames (Err f) ⊎ ((f.place ≡ place.Row) × (refusal_of f.fault ≡ None))

-- the offsets of the columns' frames were found, after which the row ends
abbrev pub FindsCells : List Column → List ℕ → List ℕ → Result ⊤ PlacedFault → Type 0
FindsCells columns frames offsets (Ok done) =
    HasOffsets (length columns) frames offsets × EndsRow columns 0 (length columns) frames (Ok tt)
FindsCells columns frames offsets (Err f) = IsWhyNotFound columns frames f
