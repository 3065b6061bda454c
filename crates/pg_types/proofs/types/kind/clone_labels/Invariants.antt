-- The invariants and measures of `clone_labels`.
use Rattle.std.proofs.Common.{◌≡◌, string_bytes, map, take}
use Rattle.pg_types.proofs.types.kind.clone_labels.Given as goal

abbrev pub invariant-loop-label : goal.invariant-loop-label
invariant-loop-label l = map string_bytes l.copies.items ≡ map string_bytes (take l.label-index l.labels)
