-- Reading a box.
use Rattle.std.specs.Prelude.{Some}
use Rattle.pg_base.specs.Cells.{Cell}
use Rattle.pg_types.specs.Faults.{Outcome}
use Rattle.pg_base.specs.Formats.{NotNull}
use Rattle.pg_read.specs.Views.{ReadsThrough}

-- NULL gives WasNull, even if the value inside has a reading for it, and bytes are read as the value inside
abbrev pub ReadsBox : {A B : Type 0} → (B → A) → (Cell → Outcome A → Type 0) → Cell → Outcome B → Type 0
ReadsBox inside reads = ReadsThrough inside (NotNull (λ b. reads (Some b)))
