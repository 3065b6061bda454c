use Rattle.std.proofs.Common.{◌≡◌, ◌==◌, drop}
use Rattle.std.specs.Cmp.Lexicographic.{pointwise}
use Rattle.named_types.proofs.base.is_name.Given as goal

abbrev pub invariant-bytes : goal.invariant-bytes
invariant-bytes l = pointwise ◌==◌ (drop l.i l.bytes) (drop l.i l.name) ≡ pointwise ◌==◌ l.bytes l.name
