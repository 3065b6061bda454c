-- The labels that were copied.
use Rattle.std.proofs.Common.{◌≡◌, map, take, string_bytes}
use Rattle.pg_client.proofs.catalog.kinds.labels.Given as goal

-- those so far
abbrev pub invariant-loop-label : goal.invariant-loop-label
invariant-loop-label l = map string_bytes l.owned.items ≡ map (λ label. label.now) (take l.label-index l.labels)
