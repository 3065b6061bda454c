-- The invariants and measures of `sort_entries`.
use Rattle.std.proofs.Common.{◌≡◌, ◌++◌, map}
use Rattle.pg_base.specs.Hstore.{borrowed_entry, owned_entry}
use Rattle.pg_write.proofs.hstore.sort_entries.Given as goal

-- the entries so far, and those that the iterator has left
abbrev pub invariant-loop-key : goal.invariant-loop-key
invariant-loop-key g l = map borrowed_entry l.entries.items ++ map owned_entry l.key-iterator
    ≡ map owned_entry l.store.entries
