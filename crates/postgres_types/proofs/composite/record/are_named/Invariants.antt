-- What the loop of `are_named` keeps.
use Rattle.std.proofs.Common.{◌≡◌}
use Rattle.postgres_types.proofs.FieldNames.{left, name_fields}
use Rattle.postgres_types.proofs.composite.record.are_named.Given as goal

-- the names are those of the fields if those that are left are
abbrev pub invariant-loop-place : goal.invariant-loop-place
invariant-loop-place l = name_fields l.names l.fields ≡ left l.names l.fields l.place
