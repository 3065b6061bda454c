-- The invariants and measures of `hstore_len`.
use Rattle.std.proofs.Common.{◌≡◌, ◌≤◌, ◌+◌, ◌*◌, ℕ, List, Some, length, map, take}
use Rattle.pg_base.specs.Hstore.{entries_bytes, borrowed_entry}
use Rattle.pg_base.specs.Cells.{max_length}
use Rattle.pg_base.specs.Counts.{number_width}
use Rattle.pg_base.proofs.HstoreLengths.{BorrowedEntry}
use Rattle.pg_base.proofs.protocol.hstore.hstore_len.Given as goal

-- the length is that of the count and of the first entries
pub record MeasuredEntries (entries : List BorrowedEntry) (index len : ℕ) : Type 0 where
  -- the bytes of these entries
  pub bytes : List ℕ
  -- they are theirs
  pub bytes_are : entries_bytes (map borrowed_entry (take index entries)) ≡ Some bytes
  -- with the count they are so many
  pub whole : len ≡ number_width + length bytes
  -- and for each entry they are no more than two of the longest frames
  pub short : length bytes ≤ index * (2 * (number_width + max_length))

-- the entries so far are measured
abbrev pub invariant-loop-key : goal.invariant-loop-key
invariant-loop-key l = MeasuredEntries l.entries l.key-index l.len
