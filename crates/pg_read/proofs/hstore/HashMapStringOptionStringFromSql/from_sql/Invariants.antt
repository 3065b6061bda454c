-- The invariants and measures of `HashMapStringOptionStringFromSql::from_sql`.
use Rattle.std.proofs.Common.{◌≡◌, ℕ, List}
use Rattle.pg_base.specs.Hstore.{Entry, last_value, value_at}
use Rattle.pg_base.proofs.HstoreLaws.{HaveBeenRead}
use Rattle.pg_read.proofs.hstore.HashMapStringOptionStringFromSql.from_sql.Given as goal

-- the entries so far, and that the map has them
abbrev pub invariant-loop-entry : goal.invariant-loop-entry
invariant-loop-entry g l =
    (es : List Entry) × HaveBeenRead l.initial.entries es l.entries
    × ((q : List ℕ) → value_at l.map q ≡ last_value q es)

abbrev pub decreases-loop-entry : goal.decreases-loop-entry
decreases-loop-entry g l = l.entries.left
