-- The loop of `push_entries`: the entries before this one stand there.
use Rattle.std.proofs.Common.{◌≡◌, ◌++◌, map, take}
use Rattle.postgres_types.specs.Hstore.{borrowed_entry}
use Rattle.pg_text.specs.Maps.{entries_text}
use Rattle.pg_text.proofs.hstore.push_entries.Given as goal

abbrev pub invariant-loop-place : goal.invariant-loop-place
invariant-loop-place l = l.out.items ≡ l.fn.out.items ++ entries_text (map borrowed_entry (take l.place l.entries))
