-- Values that may be infinite are read back as they are written, and stay finite, if the values inside do both.
use Rattle.std.specs.Prelude.{◌≡◌, ℕ, List, Some, None, Ok, Err, IsTrue, Bool, ◌&&◌, refl}
use Rattle.std.proofs.Common.{sym, subst, inl, inr, true≢false}
use Rattle.std.proofs.lemmas.Bool.{and_parts}
use Rattle.std.specs.Int.{Width}
use Rattle.pg_types.specs.declared.types.built_in.BuiltIn.TheVariants.{Date as DateRow}
use Rattle.pg_base.specs.Appending.{Wire}
use Rattle.pg_base.specs.Cells.{Cell}
use Rattle.pg_types.specs.Content.{Content, BuiltInType, is_row}
use Rattle.pg_types.specs.Faults.{Outcome}
use Rattle.pg_base.specs.Timestamps.{accepts_timestamps}
use Rattle.pg_base.specs.Special.{Special, pos_infinity, neg_infinity, value, infinity, minus_infinity}
use Rattle.pg_base.specs.Special.{IsFiniteCell, FormSpecial, ReadsSpecial, SameSpecial, wire_special}
use Rattle.pg_base.proofs.SpecialLaws.{infinities_apart, infinity_width, minus_infinity_width}
use Rattle.pg_types.specs.Laws.Equality.{type-same}
use Rattle.postgres_types.specs.ReadingBack.{IsLawful, KeepsFinite, WrittenFinite, WrittenAsBytes, OfValue}
use Rattle.postgres_types.specs.ReadingBack.{BackValue, BackSpecial}

-- no type is both DATE and a type of timestamps
pub not_both : (ty : Content) → IsTrue (is_row DateRow ty) → IsTrue (accepts_timestamps ty) → ⊥
not_both ty date timestamp =
    let is : ty ≡ BuiltInType DateRow = type-same ty (BuiltInType DateRow) date in
    true≢false (sym (subst (λ t. IsTrue (accepts_timestamps t)) is timestamp))

-- a type that is accepted is DATE, or a type of timestamps
pub row_accepted : (x y : Bool) → IsTrue (x && y) → IsTrue x
row_accepted x y h = (and_parts x y h).0

module _ {A B : Type 0} (w : Width) (view : B → Special A) where
  form_map : (F G : A → Type 0) → ((v : A) → F v → G v) → (b : List ℕ) (s : Special A) → FormSpecial w F b s
      → FormSpecial w G b s
  form_map F G f b pos_infinity h = h
  form_map F G f b neg_infinity h = h
  form_map F G f b (value v) h = (h.0, f v h.1)

  of_value_map : (F G : A → Type 0) → ((v : A) → F v → G v) → (s : Special A) → OfValue F s → OfValue G s
  of_value_map F G f pos_infinity h = h
  of_value_map F G f neg_infinity h = h
  of_value_map F G f (value v) h = f v h

  -- the statement about the value inside may be replaced
  special_map : (P Q : Cell → Outcome A → Type 0) (c : Cell) → ((o : Outcome A) → P c o → Q c o) → (o : Outcome B)
      → ReadsSpecial w view P c o → ReadsSpecial w view Q c o
  special_map P Q None f o h = h
  special_map P Q (Some b) f (Ok v) h =
      form_map (λ u. P (Some b) (Ok u)) (λ u. Q (Some b) (Ok u)) (λ u. f (Ok u)) b (view v) h
  special_map P Q (Some b) f (Err r) h = elim h [ inl z ↦ inl z | inr z ↦ inr (z.0, f (Err r) z.1) ]

  value_map : (P Q : Outcome A → Type 0) → ((o : Outcome A) → P o → Q o) → (u : Wire) (o : Outcome B)
      → BackValue w view u P o → BackValue w view u Q o
  value_map P Q f (Ok c) o h = special_map (λ _. P) (λ _. Q) c f o h
  value_map P Q f (Err r) (Ok s) h = of_value_map (λ v. P (Ok v)) (λ v. Q (Ok v)) (λ v. f (Ok v)) (view s) h
  value_map P Q f (Err r) (Err g) h = f (Err g) h

  -- the bytes of an infinity spell that infinity only
  infinity_form : (F : A → Type 0) (s : Special A) → FormSpecial w F (infinity w) s → s ≡ pos_infinity
  infinity_form F pos_infinity h = refl
  infinity_form F neg_infinity h = absurd (infinities_apart w h)
  infinity_form F (value v) h = absurd (h.0.not_infinity refl)

  minus_infinity_form : (F : A → Type 0) (s : Special A) → FormSpecial w F (minus_infinity w) s → s ≡ neg_infinity
  minus_infinity_form F pos_infinity h = absurd (infinities_apart w (sym h))
  minus_infinity_form F neg_infinity h = refl
  minus_infinity_form F (value v) h = absurd (h.0.not_minus_infinity refl)

  module _ (same : A → A → Type 0) (reads : Cell → Outcome A → Type 0) (wire : A → Wire) (back : A → Outcome A → Type 0)
      (law : IsLawful same reads wire back) (finite : KeepsFinite w reads wire) where
    abbrev Reads : Cell → Outcome B → Type 0
    Reads = ReadsSpecial w view reads

    abbrev Back : Special A → Outcome B → Type 0
    Back = BackSpecial w view wire back

    same_view_wire : (s t : Special A) → SameSpecial same s t → wire_special w wire s ≡ wire_special w wire t
    same_view_wire pos_infinity pos_infinity h = refl
    same_view_wire pos_infinity neg_infinity h = absurd h
    same_view_wire pos_infinity (value y) h = absurd h
    same_view_wire neg_infinity pos_infinity h = absurd h
    same_view_wire neg_infinity neg_infinity h = refl
    same_view_wire neg_infinity (value y) h = absurd h
    same_view_wire (value x) pos_infinity h = absurd h
    same_view_wire (value x) neg_infinity h = absurd h
    same_view_wire (value x) (value y) h = law.same_wire x y h

    same_view_back : (s t : Special A) (o : Outcome B) → SameSpecial same s t → Back s o → Back t o
    same_view_back pos_infinity pos_infinity o h k = k
    same_view_back pos_infinity neg_infinity o h k = absurd h
    same_view_back pos_infinity (value y) o h k = absurd h
    same_view_back neg_infinity pos_infinity o h k = absurd h
    same_view_back neg_infinity neg_infinity o h k = k
    same_view_back neg_infinity (value y) o h k = absurd h
    same_view_back (value x) pos_infinity o h k = absurd h
    same_view_back (value x) neg_infinity o h k = absurd h
    same_view_back (value x) (value y) o h k =
        value_map (back x) (back y) (λ q. law.same_back x y q h) (wire y) o
        (subst (λ u. BackValue w view u (back x) o) (law.same_wire x y h) k)

    infinity_reads : (o : Outcome B) → Back pos_infinity o → Reads (Some (infinity w)) o
    infinity_reads (Ok v) h = subst (FormSpecial w (λ u. reads (Some (infinity w)) (Ok u)) (infinity w)) (sym h) refl
    infinity_reads (Err r) h = absurd h

    infinity_back : (o : Outcome B) → Reads (Some (infinity w)) o → Back pos_infinity o
    infinity_back (Ok v) h = infinity_form (λ u. reads (Some (infinity w)) (Ok u)) (view v) h
    infinity_back (Err r) h = elim h [ inl z ↦ z.0 (infinity_width w) | inr z ↦ z.0.not_infinity refl ]

    minus_infinity_reads : (o : Outcome B) → Back neg_infinity o → Reads (Some (minus_infinity w)) o
    minus_infinity_reads (Ok v) h = subst
        (FormSpecial w (λ u. reads (Some (minus_infinity w)) (Ok u)) (minus_infinity w)) (sym h) refl
    minus_infinity_reads (Err r) h = absurd h

    minus_infinity_back : (o : Outcome B) → Reads (Some (minus_infinity w)) o → Back neg_infinity o
    minus_infinity_back (Ok v) h = minus_infinity_form (λ u. reads (Some (minus_infinity w)) (Ok u)) (view v) h
    minus_infinity_back (Err r) h = elim h
        [ inl z ↦ z.0 (minus_infinity_width w) | inr z ↦ z.0.not_minus_infinity refl ]

    special_back_reads : (s : Special A) (c : Cell) (o : Outcome B) → wire_special w wire s ≡ Ok c → Back s o
        → Reads c o
    special_back_reads pos_infinity c o e h = let is : Some (infinity w) ≡ c = cc in
        subst (λ d. Reads d o) is (infinity_reads o h)
    special_back_reads neg_infinity c o e h = let is : Some (minus_infinity w) ≡ c = cc in
        subst (λ d. Reads d o) is (minus_infinity_reads o h)
    special_back_reads (value x) c o e h =
        special_map (λ _. back x) reads c (λ q. law.back_reads x c q e) o
        (subst (λ u. BackValue w view u (back x) o) e h)

    special_reads_back : (s : Special A) (c : Cell) (o : Outcome B) → wire_special w wire s ≡ Ok c → Reads c o
        → Back s o
    special_reads_back pos_infinity c o e h = let is : c ≡ Some (infinity w) = cc in
        infinity_back o (subst (λ d. Reads d o) is h)
    special_reads_back neg_infinity c o e h = let is : c ≡ Some (minus_infinity w) = cc in
        minus_infinity_back o (subst (λ d. Reads d o) is h)
    special_reads_back (value x) c o e h =
        subst (λ u. BackValue w view u (back x) o) (sym e)
        (special_map reads (λ _. back x) c (λ q. law.reads_back x c q e) o h)

    value_written : (v : B) (x : A) (u : Wire) → view v ≡ value x → WrittenFinite w u → WrittenAsBytes reads x u
        → WrittenAsBytes Reads v u
    value_written v x (Ok None) e f h = h
    value_written v x (Ok (Some b)) e f h = subst (FormSpecial w (λ u. reads (Some b) (Ok u)) b) (sym e) (f, h)
    value_written v x (Err r) e f h = tt

    special_written : (b : List ℕ) (v : B) (s : Special A) → view v ≡ s
        → FormSpecial w (λ u. reads (Some b) (Ok u)) b s → WrittenAsBytes Reads v (wire_special w wire s)
    special_written b v pos_infinity e h = infinity_reads (Ok v) e
    special_written b v neg_infinity e h = minus_infinity_reads (Ok v) e
    special_written b v (value x) e h = value_written v x (wire x) e (finite b x h.0 h.1) (law.from_bytes b x h.1)

    -- values that may be infinite are lawful if the values inside are, and stay finite
    pub special_lawful : IsLawful (λ v u. SameSpecial same (view v) (view u)) Reads (λ v. wire_special w wire (view v))
        (λ v. Back (view v))
    special_lawful = record {
      same_wire = λ v u. same_view_wire (view v) (view u);
      same_back = λ v u. same_view_back (view v) (view u);
      from_bytes = λ b v. special_written b v (view v) refl;
      from_null = λ v h. absurd h;
      back_reads = λ v. special_back_reads (view v);
      reads_back = λ v. special_reads_back (view v);
    }

module _ {A B : Type 0} (w : Width) (view : B → Special A) (reads : Cell → Outcome A → Type 0) (wire : A → Wire)
    (finite : KeepsFinite w reads wire) where
  view_finite : (b : List ℕ) (s : Special A) → IsFiniteCell w b → FormSpecial w (λ u. reads (Some b) (Ok u)) b s
      → WrittenFinite w (wire_special w wire s)
  view_finite b pos_infinity f h = absurd (f.not_infinity h)
  view_finite b neg_infinity f h = absurd (f.not_minus_infinity h)
  view_finite b (value x) f h = finite b x f h.1

  -- finite bytes give no infinity, and the value that they give stays finite
  pub special_finite : KeepsFinite w (ReadsSpecial w view reads) (λ v. wire_special w wire (view v))
  special_finite b v f h = view_finite b (view v) f h
