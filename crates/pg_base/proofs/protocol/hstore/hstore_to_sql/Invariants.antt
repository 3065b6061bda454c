-- The invariants and measures of `hstore_to_sql`.
use Rattle.std.proofs.Common.{◌≡◌, ◌≤◌, ◌+◌, ◌++◌, ℕ, List, Some, length, map, take}
use Rattle.pg_base.specs.Hstore.{entries_bytes, borrowed_entry}
use Rattle.bytes.specs.Filled.{Filled}
use Rattle.pg_base.proofs.HstoreLengths.{BorrowedEntry}
use Rattle.pg_base.proofs.protocol.hstore.hstore_to_sql.Given as goal

-- the first entries stand after what a buffer held, and took no more room than their bytes
pub record AppendedEntries (entries : List BorrowedEntry) (index : ℕ) (start now : Filled) : Type 0 where
  -- the bytes of these entries
  pub bytes : List ℕ
  -- they are theirs
  pub bytes_are : entries_bytes (map borrowed_entry (take index entries)) ≡ Some bytes
  -- they stand after what the buffer held
  pub items : now.items ≡ start.items ++ bytes
  -- and took no more room than themselves
  pub spare : start.spare ≤ now.spare + length bytes

-- the entries so far stand after the count
abbrev pub invariant-loop-key : goal.invariant-loop-key
invariant-loop-key l = AppendedEntries l.entries l.key-index l.initial.out l.out
