-- Options are read back as they are written, and their values stay finite, if those inside do.
use Rattle.std.specs.Prelude.{◌≡◌, ℕ, List, Option, Some, None, Ok, Err, refl}
use Rattle.std.proofs.Common.{sym, subst}
use Rattle.std.specs.Int.{Width}
use Rattle.pg_base.specs.Appending.{Wire}
use Rattle.pg_base.specs.Cells.{Cell}
use Rattle.pg_types.specs.Faults.{Outcome}
use Rattle.pg_base.specs.Sameness.{SameOption}
use Rattle.pg_read.specs.OptionReading.{IsNoneOutcome, ReadsOption}
use Rattle.pg_write.specs.OptionWriting.{wire_option}
use Rattle.postgres_types.specs.Laws.Back.{if_null_map}
use Rattle.postgres_types.specs.ReadingBack.{IsLawful, WrittenAsCell, WrittenAsBytes, IfNull, InSome, BackOption}
use Rattle.postgres_types.specs.ReadingBack.{KeepsFinite}

module _ {A : Type 0} (same : A → A → Type 0) (reads : Cell → Outcome A → Type 0) (wire : A → Wire)
    (back : A → Outcome A → Type 0)
    (law : IsLawful same reads wire back) where
  option_same_wire : (v w : Option A) → SameOption same v w → wire_option wire v ≡ wire_option wire w
  option_same_wire None None h = refl
  option_same_wire None (Some w) h = absurd h
  option_same_wire (Some v) None h = absurd h
  option_same_wire (Some v) (Some w) h = law.same_wire v w h

  some_same_back : (v w : A) → same v w → (o : Outcome (Option A)) → InSome (back v) o → InSome (back w) o
  some_same_back v w h (Ok None) k = k
  some_same_back v w h (Ok (Some x)) k = law.same_back v w (Ok x) h k
  some_same_back v w h (Err r) k = law.same_back v w (Err r) h k

  option_same_back : (v w : Option A) (o : Outcome (Option A)) → SameOption same v w → BackOption wire back v o
      → BackOption wire back w o
  option_same_back None None o h k = k
  option_same_back None (Some w) o h k = absurd h
  option_same_back (Some v) None o h k = absurd h
  option_same_back (Some v) (Some w) o h k =
      if_null_map (wire w) (IsNoneOutcome o) (InSome (back v) o) (InSome (back w) o) (some_same_back v w h o)
      (subst (λ u. IfNull u (IsNoneOutcome o) (InSome (back v) o)) (law.same_wire v w h) k)

  some_written : (v : A) (u : Wire) → WrittenAsBytes reads v u → WrittenAsBytes (ReadsOption reads) (Some v) u
  some_written v (Ok None) h = h
  some_written v (Ok (Some b)) h = h
  some_written v (Err r) h = tt

  option_from_bytes : (b : List ℕ) (v : Option A) → ReadsOption reads (Some b) (Ok v)
      → WrittenAsBytes (ReadsOption reads) v (wire_option wire v)
  option_from_bytes b None h = absurd h
  option_from_bytes b (Some v) h = some_written v (wire v) (law.from_bytes b v h)

  option_from_null : (v : Option A) → ReadsOption reads None (Ok v)
      → WrittenAsCell (ReadsOption reads) v (wire_option wire v)
  option_from_null None h = tt
  option_from_null (Some v) h = absurd h

  some_reads : (b : List ℕ) (v : A) → wire v ≡ Ok (Some b) → (o : Outcome (Option A)) → InSome (back v) o
      → ReadsOption reads (Some b) o
  some_reads b v e (Ok None) h = h
  some_reads b v e (Ok (Some x)) h = law.back_reads v (Some b) (Ok x) e h
  some_reads b v e (Err r) h = law.back_reads v (Some b) (Err r) e h

  some_back : (b : List ℕ) (v : A) → wire v ≡ Ok (Some b) → (o : Outcome (Option A)) → ReadsOption reads (Some b) o
      → InSome (back v) o
  some_back b v e (Ok None) h = h
  some_back b v e (Ok (Some x)) h = law.reads_back v (Some b) (Ok x) e h
  some_back b v e (Err r) h = law.reads_back v (Some b) (Err r) e h

  option_back_reads : (v : Option A) (c : Cell) (o : Outcome (Option A)) → wire_option wire v ≡ Ok c
      → BackOption wire back v o → ReadsOption reads c o
  option_back_reads None None o e h = h
  option_back_reads None (Some b) o e h = cc
  option_back_reads (Some v) None o e h = subst (λ u. IfNull u (IsNoneOutcome o) (InSome (back v) o)) e h
  option_back_reads (Some v) (Some b) o e h =
      some_reads b v e o (subst (λ u. IfNull u (IsNoneOutcome o) (InSome (back v) o)) e h)

  option_reads_back : (v : Option A) (c : Cell) (o : Outcome (Option A)) → wire_option wire v ≡ Ok c
      → ReadsOption reads c o → BackOption wire back v o
  option_reads_back None None o e h = h
  option_reads_back None (Some b) o e h = cc
  option_reads_back (Some v) None o e h = subst (λ u. IfNull u (IsNoneOutcome o) (InSome (back v) o)) (sym e) h
  option_reads_back (Some v) (Some b) o e h =
      subst (λ u. IfNull u (IsNoneOutcome o) (InSome (back v) o)) (sym e) (some_back b v e o h)

  -- options are lawful if the values inside are
  pub option_lawful : IsLawful (SameOption same) (ReadsOption reads) (wire_option wire) (BackOption wire back)
  option_lawful = record {
    same_wire = option_same_wire;
    same_back = option_same_back;
    from_bytes = option_from_bytes;
    from_null = option_from_null;
    back_reads = option_back_reads;
    reads_back = option_reads_back;
  }

module _ {A : Type 0} (w : Width) (reads : Cell → Outcome A → Type 0) (wire : A → Wire)
    (law : KeepsFinite w reads wire) where
  -- and finite if those are
  pub option_finite : KeepsFinite w (ReadsOption reads) (wire_option wire)
  option_finite b None finite h = absurd h
  option_finite b (Some v) finite h = law b v finite h
