-- The loop of `sorted_entries`: the entries so far, and those that the iterator has left, are the map's.
use Rattle.std.proofs.Common.{◌≡◌, ◌++◌, map}
use Rattle.postgres_types.specs.Hstore.{borrowed_entry, owned_entry}
use Rattle.pg_text.proofs.hstore.sorted_entries.Given as goal

abbrev pub invariant-loop-key : goal.invariant-loop-key
invariant-loop-key l = map borrowed_entry l.entries.items ++ map owned_entry l.key-iterator
    ≡ map owned_entry l.store.entries
