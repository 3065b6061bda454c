-- Laws of reading back that types over another share.
use Rattle.std.specs.Prelude.{◌≡◌, Some, None, Ok, Err}
use Rattle.std.proofs.Common.{subst}
use Rattle.pg_base.specs.Appending.{Wire}
use Rattle.pg_base.specs.Cells.{Cell}
use Rattle.pg_types.specs.Faults.{Outcome}
use Rattle.postgres_types.specs.ReadingBack.{IsLawful, WrittenAsCell, WrittenAsBytes, IfNull}

-- the statement for a value that is not written as NULL may be replaced
pub if_null_map : (w : Wire) (P Q R : Type 0) → (Q → R) → IfNull w P Q → IfNull w P R
if_null_map (Ok None) P Q R f h = h
if_null_map (Ok (Some b)) P Q R f h = f h
if_null_map (Err r) P Q R f h = f h

-- a value that was read is written as a cell that reads as it
pub kept : {A : Type 0} (same : A → A → Type 0) (reads : Cell → Outcome A → Type 0) (wire : A → Wire)
    (back : A → Outcome A → Type 0) → IsLawful same reads wire back
    → (c : Cell) (v : A) (d : Cell) → reads c (Ok v) → wire v ≡ Ok d → reads d (Ok v)
kept same reads wire back law None v d h e = subst (WrittenAsCell reads v) e (law.from_null v h)
kept same reads wire back law (Some b) v None h e = absurd (subst (WrittenAsBytes reads v) e (law.from_bytes b v h))
kept same reads wire back law (Some b) v (Some d) h e = subst (WrittenAsBytes reads v) e (law.from_bytes b v h)
