-- Types over another are read back as they are written, and their values stay finite, if those of the other do.
use Rattle.std.specs.Prelude.{◌≡◌, Bool, true, false, if◌then◌else◌, Some, None, Ok, Err, refl}
use Rattle.std.proofs.Common.{inl, inr}
use Rattle.std.specs.Int.{Width}
use Rattle.pg_base.specs.Appending.{Wire}
use Rattle.pg_base.specs.Cells.{Cell}
use Rattle.pg_types.specs.Faults.{Outcome, Refusal}
use Rattle.pg_read.specs.Views.{Constrained, ReadsConstrained, ReadsThrough, Through}
use Rattle.pg_write.specs.Writing.{wire_constrained}
use Rattle.postgres_types.specs.ReadingBack.{IsLawful, KeepsFinite, WrittenAsBytes, WrittenAsCell, WrittenFinite}

-- ---- values that show one of another type inside
module _ {A B : Type 0} (inside : B → A) where
  -- the statement about the value inside may be replaced
  pub through_map : (P Q : Outcome A → Type 0) → ((o : Outcome A) → P o → Q o) → (o : Outcome B) → Through inside P o
      → Through inside Q o
  through_map P Q f (Ok v) h = f (Ok (inside v)) h
  through_map P Q f (Err r) h = f (Err r) h

  module _ (reads : Cell → Outcome A → Type 0) where
    bytes_through : (v : B) (w : Wire) → WrittenAsBytes reads (inside v) w
        → WrittenAsBytes (ReadsThrough inside reads) v w
    bytes_through v (Ok None) h = h
    bytes_through v (Ok (Some b)) h = h
    bytes_through v (Err r) h = tt

    cell_through : (v : B) (w : Wire) → WrittenAsCell reads (inside v) w → WrittenAsCell (ReadsThrough inside reads) v w
    cell_through v (Ok c) h = h
    cell_through v (Err r) h = tt

    -- they are lawful if the values inside are
    pub through_lawful : (same : A → A → Type 0) (wire : A → Wire) (back : A → Outcome A → Type 0)
        → IsLawful same reads wire back
        → IsLawful (λ v w. same (inside v) (inside w)) (ReadsThrough inside reads) (λ v. wire (inside v))
        (λ v. Through inside (back (inside v)))
    through_lawful same wire back law = record {
      same_wire = λ v w h. law.same_wire (inside v) (inside w) h;
      same_back = λ v w o h. through_map (back (inside v)) (back (inside w))
          (λ p. law.same_back (inside v) (inside w) p h) o;
      from_bytes = λ b v h. bytes_through v (wire (inside v)) (law.from_bytes b (inside v) h);
      from_null = λ v h. cell_through v (wire (inside v)) (law.from_null (inside v) h);
      back_reads = λ v c o e. through_map (back (inside v)) (reads c) (λ p. law.back_reads (inside v) c p e) o;
      reads_back = λ v c o e. through_map (reads c) (back (inside v)) (λ p. law.reads_back (inside v) c p e) o;
    }

    -- and finite if those are
    pub through_finite : (w : Width) (wire : A → Wire) → KeepsFinite w reads wire
        → KeepsFinite w (ReadsThrough inside reads) (λ v. wire (inside v))
    through_finite w wire law b v finite h = law b (inside v) finite h

-- ---- values under a constraint
module _ {A : Type 0} (meets : A → Bool) (fault : Refusal) where
  abbrev Under : (Outcome A → Type 0) → Outcome A → Type 0
  Under = Constrained meets fault

  -- the statement about values may be replaced
  constrained_map : (P Q : Outcome A → Type 0) → ((o : Outcome A) → P o → Q o) → (o : Outcome A) → Under P o → Under Q o
  constrained_map P Q f (Ok v) h = (f (Ok v) h.0, h.1)
  constrained_map P Q f (Err r) h = elim h [
    | inl z ↦ inl (f (Err r) z)
    | inr z ↦ inr (record { value = z.value; given = f (Ok z.value) z.given; fails = z.fails; is = z.is })
  ]

  -- a value that was written met the constraint
  written_unconstrained : (t : Bool) (w : Wire) (c : Cell) → (if t then w else Err fault) ≡ Ok c → w ≡ Ok c
  written_unconstrained true w c e = e
  written_unconstrained false w c e = let no : ⊥ = cc in absurd no

  module _ (same : A → A → Type 0) (reads : Cell → Outcome A → Type 0) (wire : A → Wire)
      (respects : (v w : A) → same v w → meets v ≡ meets w) where
    same_wire_constrained : ((v w : A) → same v w → wire v ≡ wire w) → (v w : A) → same v w
        → wire_constrained meets fault wire v ≡ wire_constrained meets fault wire w
    same_wire_constrained same_wire v w h = rw (respects v w h, same_wire v w h) refl

    bytes_refused : (v : A) (t : Bool) (w : Wire) → WrittenAsBytes reads v w
        → WrittenAsBytes reads v (if t then w else Err fault)
    bytes_refused v true w h = h
    bytes_refused v false w h = tt

    cell_refused : (v : A) (t : Bool) (w : Wire) → WrittenAsCell reads v w
        → WrittenAsCell reads v (if t then w else Err fault)
    cell_refused v true w h = h
    cell_refused v false w h = tt

    -- a type that only refuses to write values that do not meet a constraint is lawful if it is without the constraint
    pub refusing_lawful : (back : A → Outcome A → Type 0) → IsLawful same reads wire back
        → IsLawful same reads (wire_constrained meets fault wire) back
    refusing_lawful back law = record {
      same_wire = same_wire_constrained law.same_wire;
      same_back = law.same_back;
      from_bytes = λ b v h. bytes_refused v (meets v) (wire v) (law.from_bytes b v h);
      from_null = λ v h. cell_refused v (meets v) (wire v) (law.from_null v h);
      back_reads = λ v c o e. law.back_reads v c o (written_unconstrained (meets v) (wire v) c e);
      reads_back = λ v c o e. law.reads_back v c o (written_unconstrained (meets v) (wire v) c e);
    }

    bytes_constrained : (v : A) (t : Bool) (w : Wire) → meets v ≡ true → WrittenAsBytes reads v w
        → WrittenAsBytes (ReadsConstrained meets fault reads) v (if t then w else Err fault)
    bytes_constrained v false w m h = tt
    bytes_constrained v true (Ok None) m h = h
    bytes_constrained v true (Ok (Some b)) m h = (h, m)
    bytes_constrained v true (Err r) m h = tt

    cell_constrained : (v : A) (t : Bool) (w : Wire) → meets v ≡ true → WrittenAsCell reads v w
        → WrittenAsCell (ReadsConstrained meets fault reads) v (if t then w else Err fault)
    cell_constrained v false w m h = tt
    cell_constrained v true (Ok c) m h = (h, m)
    cell_constrained v true (Err r) m h = tt

    -- and so is one that also refuses to read it
    pub constrained_lawful : (back : A → Outcome A → Type 0) → IsLawful same reads wire back
        → IsLawful same (ReadsConstrained meets fault reads) (wire_constrained meets fault wire) (λ v. Under (back v))
    constrained_lawful back law = record {
      same_wire = same_wire_constrained law.same_wire;
      same_back = λ v w o h. constrained_map (back v) (back w) (λ p. law.same_back v w p h) o;
      from_bytes = λ b v h. bytes_constrained v (meets v) (wire v) h.1 (law.from_bytes b v h.0);
      from_null = λ v h. cell_constrained v (meets v) (wire v) h.1 (law.from_null v h.0);
      back_reads = λ v c o e. constrained_map (back v) (reads c)
          (λ p. law.back_reads v c p (written_unconstrained (meets v) (wire v) c e)) o;
      reads_back = λ v c o e. constrained_map (reads c) (back v)
          (λ p. law.reads_back v c p (written_unconstrained (meets v) (wire v) c e)) o;
    }

  finite_refused : (w : Width) (t : Bool) (x : Wire) → WrittenFinite w x → WrittenFinite w (if t then x else Err fault)
  finite_refused w true x h = h
  finite_refused w false x h = tt

  -- finite values stay finite if writing refuses some of them
  pub refusing_finite : (w : Width) (reads : Cell → Outcome A → Type 0) (wire : A → Wire) → KeepsFinite w reads wire
      → KeepsFinite w reads (wire_constrained meets fault wire)
  refusing_finite w reads wire law b v finite h = finite_refused w (meets v) (wire v) (law b v finite h)

  -- and if reading refuses them too
  pub constrained_finite : (w : Width) (reads : Cell → Outcome A → Type 0) (wire : A → Wire) → KeepsFinite w reads wire
      → KeepsFinite w (ReadsConstrained meets fault reads) (wire_constrained meets fault wire)
  constrained_finite w reads wire law b v finite h = finite_refused w (meets v) (wire v) (law b v finite h.0)
