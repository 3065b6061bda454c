-- Boxes are read back as they are written, and their values stay finite, if those inside do.
use Rattle.std.specs.Prelude.{◌≡◌, Some, None, Ok, Err}
use Rattle.std.proofs.Common.{sym, subst}
use Rattle.std.specs.Int.{Width}
use Rattle.pg_base.specs.Appending.{Wire}
use Rattle.pg_base.specs.Cells.{Cell}
use Rattle.pg_base.specs.Formats.{IsWasNull, NotNull}
use Rattle.pg_types.specs.Faults.{Outcome}
use Rattle.pg_read.specs.BoxReading.{ReadsBox}
use Rattle.postgres_types.specs.Laws.Back.{if_null_map}
use Rattle.postgres_types.specs.ReadingBack.{IsLawful, WrittenAsBytes, IfNull, BackBox, BackNotNull, KeepsFinite}
use Rattle.postgres_types.specs.Laws.ViewBack.{through_lawful}

module _ {A : Type 0} (same : A → A → Type 0) (reads : Cell → Outcome A → Type 0) (wire : A → Wire)
    (back : A → Outcome A → Type 0) (law : IsLawful same reads wire back) where
  -- what a value is read back as if NULL gives WasNull and the value is written as w
  abbrev BackFrom : Wire → A → Outcome A → Type 0
  BackFrom w v o = IfNull w (IsWasNull o) (back v o)

  not_null_same_back : (v w : A) (o : Outcome A) → same v w → BackNotNull wire back v o → BackNotNull wire back w o
  not_null_same_back v w o h k = if_null_map (wire w) (IsWasNull o) (back v o) (back w o) (law.same_back v w o h)
      (subst (λ u. BackFrom u v o) (law.same_wire v w h) k)

  not_null_written : (v : A) (w : Wire) → WrittenAsBytes reads v w
      → WrittenAsBytes (NotNull (λ b. reads (Some b))) v w
  not_null_written v (Ok None) h = h
  not_null_written v (Ok (Some b)) h = h
  not_null_written v (Err r) h = tt

  not_null_back_reads : (v : A) (c : Cell) (o : Outcome A) → wire v ≡ Ok c → BackNotNull wire back v o
      → NotNull (λ b. reads (Some b)) c o
  not_null_back_reads v None o e h = subst (λ u. BackFrom u v o) e h
  not_null_back_reads v (Some b) o e h = law.back_reads v (Some b) o e (subst (λ u. BackFrom u v o) e h)

  not_null_reads_back : (v : A) (c : Cell) (o : Outcome A) → wire v ≡ Ok c → NotNull (λ b. reads (Some b)) c o
      → BackNotNull wire back v o
  not_null_reads_back v None o e h = subst (λ u. BackFrom u v o) (sym e) h
  not_null_reads_back v (Some b) o e h =
      subst (λ u. BackFrom u v o) (sym e) (law.reads_back v (Some b) o e h)

  -- a type for which NULL gives WasNull is lawful if one is that reads bytes as it does
  pub not_null_lawful : IsLawful same (NotNull (λ b. reads (Some b))) wire (BackNotNull wire back)
  not_null_lawful = record {
    same_wire = law.same_wire;
    same_back = not_null_same_back;
    from_bytes = λ b v h. not_null_written v (wire v) (law.from_bytes b v h);
    from_null = λ v h. absurd h;
    back_reads = not_null_back_reads;
    reads_back = not_null_reads_back;
  }

-- boxes are lawful if the values inside are
pub box_lawful : {A B : Type 0} (inside : B → A) (same : A → A → Type 0) (reads : Cell → Outcome A → Type 0)
    (wire : A → Wire) (back : A → Outcome A → Type 0) → IsLawful same reads wire back
    → IsLawful (λ v w. same (inside v) (inside w)) (ReadsBox inside reads) (λ v. wire (inside v))
    (BackBox inside wire back)
box_lawful inside same reads wire back law = through_lawful inside (NotNull (λ b. reads (Some b))) same wire
    (BackNotNull wire back) (not_null_lawful same reads wire back law)

-- and finite if those are
pub box_finite : {A B : Type 0} (inside : B → A) (w : Width) (reads : Cell → Outcome A → Type 0) (wire : A → Wire)
    → KeepsFinite w reads wire → KeepsFinite w (ReadsBox inside reads) (λ v. wire (inside v))
box_finite inside w reads wire law b v finite h = law b (inside v) finite h
