-- What the loop of `place_of` keeps.
use Rattle.std.proofs.Common.{◌≡◌}
use Rattle.postgres_types.specs.Enums.{has_label}
use Rattle.postgres_types.proofs.EnumLabels.{left, texts_of}
use Rattle.postgres_types.proofs.enums.place_of.Given as goal

-- the bytes are a label if a label that is left is
abbrev pub invariant-loop-place : goal.invariant-loop-place
invariant-loop-place l = has_label (texts_of l.labels) l.bytes ≡ left l.labels l.bytes l.place
