-- Rows of which all cells are found before columns are read.
use Rattle.std.specs.Prelude.{◌≡◌, ◌≤◌, ℕ, List, length, drop, slice_get, Option, Some, Result, Ok, Err}
use Rattle.std.specs.Borrow.{Bor}
use Rattle.pg_client.specs.RowOffsets.{HasOffsets, IsWhyNotFound}
use Rattle.pg_client.specs.Rows.{EndsRow}
use Rattle.pg_client.specs.declared.column.Column.{Column}
use Rattle.pg_client.specs.declared.placed_fault.PlacedFault.{PlacedFault}
use Rattle.pg_client.specs.declared.row_index.IndexedRow.{IndexedRow}

-- the columns of a row
abbrev pub indexed_columns : IndexedRow → List Column
indexed_columns row = row.columns.now

-- the frames of all its columns
abbrev pub indexed_frames : IndexedRow → List ℕ
indexed_frames row = row.frames.now

-- the offset of the frame of each column is known
abbrev pub IsIndexed : IndexedRow → Type 0
IsIndexed row = HasOffsets (length (indexed_columns row)) (indexed_frames row) row.offsets.now

-- the frames from a known offset on
abbrev pub HasFrame : IndexedRow → ℕ → Option (Bor (List ℕ)) → Type 0
HasFrame row n found =
    (offset : ℕ) → slice_get row.offsets.now n ≡ Some offset → offset ≤ length (indexed_frames row)
    → (frame : Bor (List ℕ)) × (found ≡ Some frame) × (frame.now ≡ drop offset (indexed_frames row))

-- the row with these columns and frames, whose offsets are known
abbrev pub IndexesRow : List Column → List ℕ → Result IndexedRow PlacedFault → Type 0
IndexesRow columns frames (Ok row) =
    (indexed_columns row ≡ columns) × (indexed_frames row ≡ frames) × IsIndexed row
    × EndsRow columns 0 (length columns) frames (Ok tt)
IndexesRow columns frames (Err f) = IsWhyNotFound columns frames f
