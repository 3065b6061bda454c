-- Laws of records with any number of fields, from the laws of the fields.
use Rattle.std.specs.Prelude.{◌≡◌, ◌==◌, ◌++◌, ◌≤◌, ℕ, pos, List, [], ◌∷◌, length, true, Option, Some, None, Ok, Err}
use Rattle.std.specs.Prelude.{refl}
use Rattle.std.proofs.Common.{sym, ◌∙◌, ap, subst, arith, append_assoc, length-append, inl, inr}
use Rattle.std.specs.Cmp.Lexicographic.{pointwise}
use Rattle.std.proofs.lemmas.Bool.{eq-eqb}
use Rattle.std.proofs.lemmas.Bool.Decides.{Decides-int_eq, nat_tests}
use Rattle.std.specs.Int.{w32, to_be_bytes}
use Rattle.pg_types.specs.Faults.{Refusal, Outcome}
use Rattle.pg_base.proofs.CellLaws.{cells_single}
use Rattle.pg_base.proofs.FrameLaws.{frame_spells}
use Rattle.pg_base.specs.Appending.{Wire}
use Rattle.pg_base.proofs.CountLaws.{count_is, number_then}
use Rattle.pg_base.specs.Cells.{Cell, CellsInRow, frame}
use Rattle.pg_base.specs.Counts.{IsCount, after_number, count_bytes, has_number, no_trailing}
use Rattle.pg_base.specs.Formats.{first_fault_of}
use Rattle.pg_read.specs.Reading.{GivesSingle, ReadsSingle}
use Rattle.pg_read.specs.Laws.Reading.{not_null_single}
use Rattle.postgres_types.specs.Laws.Back.{kept}
use Rattle.postgres_types.specs.ReadingBack.{IsLawful, WrittenAsBytes}
use Rattle.postgres_types.specs.Records.{AtEnd, Both, Bytes, CellThen, CountThen, FieldThen, FrameThen, IsDone}
use Rattle.postgres_types.specs.Records.{ReadsRecord, Unless, append_bytes, bytes_cell, concat_bytes, count_fault}
use Rattle.postgres_types.specs.Records.{field_bytes, frame_bytes, oid_fault, or_transmit, wire_record}

-- ---- one outcome

unless_single : {A : Type 0} (same : A → A → Type 0) (gives : Outcome A → Type 0) → GivesSingle same gives
    → (o : Option Refusal) → GivesSingle same (Unless o gives)
unless_single same gives single None r s h k = single r s h k
unless_single same gives single (Some f) (Ok v) s h k = absurd h
unless_single same gives single (Some f) (Err r) (Ok w) h k = absurd k
unless_single same gives single (Some f) (Err r) (Err s) h k = h ∙ sym k

-- two pairs are the same if their parts are
abbrev pub SamePair : {A B : Type 0} → (A → A → Type 0) → (B → B → Type 0) → A × B → A × B → Type 0
SamePair same alike p q = same p.0 q.0 × alike p.1 q.1

module _ {A B : Type 0} (same : A → A → Type 0) (alike : B → B → Type 0) where
  both_single : (first : Outcome A → Type 0) (second : Outcome B → Type 0) → GivesSingle same first
      → GivesSingle alike second → GivesSingle (SamePair same alike) (Both first second)
  both_single first second one two (Ok p) (Ok q) h k =
      (one (Ok p.0) (Ok q.0) h.0 k.0, two (Ok p.1) (Ok q.1) h.1 k.1)
  both_single first second one two (Ok p) (Err s) h k =
      elim k [ inl y ↦ one (Ok p.0) (Err s) h.0 y | inr y ↦ two (Ok p.1) (Err s) h.1 y.2 ]
  both_single first second one two (Err r) (Ok q) h k =
      elim h [ inl z ↦ one (Err r) (Ok q.0) z k.0 | inr z ↦ two (Err r) (Ok q.1) z.2 k.1 ]
  both_single first second one two (Err r) (Err s) h k = elim h [
    | inl z ↦ elim k [ inl y ↦ one (Err r) (Err s) z y | inr y ↦ absurd (one (Err r) (Ok y.0) z y.1) ]
    | inr z ↦ elim k [ inl y ↦ absurd (one (Ok z.0) (Err s) z.1 y) | inr y ↦ two (Err r) (Err s) z.2 y.2 ]
  ]

  module _ (reads : Cell → Outcome A → Type 0) (others : List ℕ → Outcome B → Type 0) (one : ReadsSingle same reads)
      (two : (s : List ℕ) → GivesSingle alike (others s)) where
    cell_then_single : (cs : List Cell) (rest : List ℕ)
        → GivesSingle (SamePair same alike) (CellThen reads others cs rest)
    cell_then_single [] rest (Ok p) o h k = absurd h
    cell_then_single [] rest (Err r) (Ok q) h k = absurd k
    cell_then_single [] rest (Err r) (Err s) h k = h ∙ sym k
    cell_then_single (c ∷ cs) rest r s h k = both_single (reads c) (others rest) (one c) (two rest) r s h k

    frame_then_single : (s : List ℕ) → GivesSingle (SamePair same alike) (FrameThen reads others s)
    frame_then_single s r o h k =
        let e = cells_single s 1 h.cells k.cells h.rest k.rest h.in_row k.in_row in
        let moved = subst (λ x. CellThen reads others k.cells x o) (sym e.1) k.holds in
        cell_then_single h.cells h.rest r o h.holds (subst (λ x. CellThen reads others x h.rest o) (sym e.0) moved)

    -- a field, followed by others
    pub field_single : (oid : ℕ) (s : List ℕ) → GivesSingle (SamePair same alike) (FieldThen oid reads others s)
    field_single oid s =
        unless_single (SamePair same alike) (FrameThen reads others _) (frame_then_single _) (oid_fault oid s)

done_single : GivesSingle (λ (u v : Unit {0}). Unit {0}) IsDone
done_single (Ok v) (Ok w) h k = tt
done_single (Ok v) (Err s) h k = absurd k
done_single (Err r) s h k = absurd h

-- the end
pub end_single : (s : List ℕ) → GivesSingle (λ (u v : Unit {0}). Unit {0}) (AtEnd s)
end_single s = unless_single (λ u v. Unit {0}) IsDone done_single (first_fault_of (no_trailing s ∷ []))

-- a record
pub record_single : {A : Type 0} (n : ℕ) (same : A → A → Type 0) (fields : List ℕ → Outcome A → Type 0)
    → ((s : List ℕ) → GivesSingle same (fields s)) → ReadsSingle same (ReadsRecord n fields)
record_single n same fields one = not_null_single same (CountThen n fields)
    (λ b. unless_single same (fields _) (one _) (count_fault n b))

-- ---- what is known of fields in a row

-- Reading, writing and what written values are read back as agree: the same values are written as the same bytes and
-- read back as the same; a value that was read is written as bytes that read as it, or is refused; and the bytes that
-- values are written as read as what the values are read back as.
pub record AreLawful {A : Type 0} (same : A → A → Type 0) (reads : List ℕ → Outcome A → Type 0) (bytes : A → Bytes)
    (back : A → Outcome A → Type 0) : Type 0 where
  pub same_bytes : (v w : A) → same v w → bytes v ≡ bytes w
  pub same_back : (v w : A) (o : Outcome A) → same v w → back v o → back w o
  pub from_bytes : (s : List ℕ) (v : A) (b : List ℕ) → reads s (Ok v) → bytes v ≡ Ok b → reads b (Ok v)
  pub back_reads : (v : A) (b : List ℕ) (o : Outcome A) → bytes v ≡ Ok b → back v o → reads b o
  pub reads_back : (v : A) (b : List ℕ) (o : Outcome A) → bytes v ≡ Ok b → reads b o → back v o

-- ---- numbers at the front

self_equal : (xs : List ℕ) → pointwise ◌==◌ xs xs ≡ true
self_equal [] = refl
self_equal (x ∷ xs) = rw (eq-eqb x x refl) (self_equal xs)

four_there : (m : ℕ) (s : List ℕ) → has_number (to_be_bytes w32 m ++ s) ≡ true
four_there m s =
    let long : 4 ≤ length (to_be_bytes w32 m ++ s) = omega (arith, length-append (to_be_bytes w32 m) s) in
    grind (arith, nat_tests)

-- the bytes of an OID pass its checks
oid_passes : (oid : ℕ) (s : List ℕ) → oid_fault oid (to_be_bytes w32 oid ++ s) ≡ None
oid_passes oid s = rw (four_there oid s, self_equal (to_be_bytes w32 oid)) refl

-- the bytes of a count pass its checks
count_passes : (n : ℕ) (h s : List ℕ) → IsCount h n → count_fault n (h ++ s) ≡ None
count_passes n h s e =
    let p = number_then (h ++ s) h s (pos n) refl e in
    rw (p.has, p.number, (Decides-int_eq (pos n) (pos n)).1 refl) refl

-- what is given after a check that passed, and nothing else
past_check : {A : Type 0} (x : Option Refusal) (gives : Outcome A → Type 0) (o : Outcome A) → x ≡ None → gives o
    → Unless x gives o
past_check x gives o e h = subst (λ y. Unless y gives o) (sym e) h

from_check : {A : Type 0} (x : Option Refusal) (gives : Outcome A → Type 0) (o : Outcome A) → x ≡ None
    → Unless x gives o → gives o
from_check x gives o e h = subst (λ y. Unless y gives o) e h

-- a value is given only after a check that passed
value_given : {A : Type 0} (x : Option Refusal) (gives : Outcome A → Type 0) (v : A) → Unless x gives (Ok v)
    → gives (Ok v)
value_given None gives v h = h
value_given (Some r) gives v h = absurd h

-- ---- what bytes are written of

appended_parts : (s : List ℕ) (x : Bytes) (t : List ℕ) → append_bytes s x ≡ Ok t
    → (b : List ℕ) × (x ≡ Ok b) × (t ≡ s ++ b)
appended_parts s (Err r) t e = let no : ⊥ = cc in absurd no
appended_parts s (Ok b) t e = (b, refl, cc)

concat_parts : (x y : Bytes) (t : List ℕ) → concat_bytes x y ≡ Ok t
    → (a b : List ℕ) × (x ≡ Ok a) × (y ≡ Ok b) × (t ≡ a ++ b)
concat_parts (Err r) y t e = let no : ⊥ = cc in absurd no
concat_parts (Ok a) y t e = let p = appended_parts a y t e in (a, p.0, refl, p.1, p.2)

or_transmit_parts : (x : Option (List ℕ)) (f : List ℕ) → or_transmit x ≡ Ok f → x ≡ Some f
or_transmit_parts None f e = let no : ⊥ = cc in absurd no
or_transmit_parts (Some b) f e = cc

frame_parts : (w : Wire) (f : List ℕ) → frame_bytes w ≡ Ok f → (c : Cell) × (w ≡ Ok c) × (frame c ≡ Some f)
frame_parts (Err r) f e = let no : ⊥ = cc in absurd no
frame_parts (Ok c) f e = (c, refl, or_transmit_parts (frame c) f e)

-- the statement about a pair of outcomes may be replaced
both_map : {A B : Type 0} (P Q : Outcome A → Type 0) (M N : Outcome B → Type 0) → ((o : Outcome A) → P o → Q o)
    → ((o : Outcome B) → M o → N o) → (o : Outcome (A × B)) → Both P M o → Both Q N o
both_map P Q M N f g (Ok v) h = (f (Ok v.0) h.0, g (Ok v.1) h.1)
both_map P Q M N f g (Err r) h =
    elim h [ inl z ↦ inl (f (Err r) z) | inr z ↦ inr (z.0, f (Ok z.0) z.1, g (Err r) z.2) ]

-- ---- a field before others
module _ {A B : Type 0} (oid : ℕ) (same : A → A → Type 0) (reads : Cell → Outcome A → Type 0) (wire : A → Wire)
    (back : A → Outcome A → Type 0) (law : IsLawful same reads wire back) (alike : B → B → Type 0)
    (others : List ℕ → Outcome B → Type 0) (bytes : B → Bytes) (others_back : B → Outcome B → Type 0)
    (laws : AreLawful alike others bytes others_back) where
  abbrev Fields : List ℕ → Outcome (A × B) → Type 0
  Fields = FieldThen oid reads others

  abbrev whole : A × B → Bytes
  whole p = concat_bytes (field_bytes oid (wire p.0)) (bytes p.1)

  in_row : (c : Cell) (f t : List ℕ) → frame c ≡ Some f → CellsInRow (f ++ t) 1 (c ∷ []) t
  in_row c f t e =
      (record { front = f; rest = t; is = refl; spells = frame_spells c f e; rest_spells = refl }, omega arith, inl refl)

  -- a field and others read as the pair
  reads_fields : (c : Cell) (f t : List ℕ) → frame c ≡ Some f → (o : Outcome (A × B)) → Both (reads c) (others t) o
      → Fields ((to_be_bytes w32 oid ++ f) ++ t) o
  reads_fields c f t e o h =
      let framed : FrameThen reads others (f ++ t) o = record { cells = c ∷ []; rest = t; in_row = in_row c f t e; holds = h } in
      subst (λ x. Fields x o) (sym (append_assoc (to_be_bytes w32 oid) f t))
      (past_check (oid_fault oid (to_be_bytes w32 oid ++ (f ++ t))) _ o (oid_passes oid (f ++ t)) framed)

  by_cells : (cs : List Cell) (u t : List ℕ) (c : Cell) (o : Outcome (A × B)) → cs ≡ c ∷ [] → u ≡ t
      → CellThen reads others cs u o → Both (reads c) (others t) o
  by_cells cs u t c o e k h =
      subst (λ x. Both (reads c) (others x) o) k (subst (λ x. CellThen reads others x u o) e h)

  -- they read as nothing else
  from_fields : (c : Cell) (f t : List ℕ) → frame c ≡ Some f → (o : Outcome (A × B))
      → Fields ((to_be_bytes w32 oid ++ f) ++ t) o → Both (reads c) (others t) o
  from_fields c f t e o h =
      let k = from_check (oid_fault oid (to_be_bytes w32 oid ++ (f ++ t))) (FrameThen reads others (f ++ t)) o
      (oid_passes oid (f ++ t)) (subst (λ x. Fields x o) (append_assoc (to_be_bytes w32 oid) f t) h) in
      let one = cells_single (f ++ t) 1 k.cells (c ∷ []) k.rest t k.in_row (in_row c f t e) in
      by_cells k.cells k.rest t c o one.0 one.1 k.holds

  whole_parts : (p : A × B) (b : List ℕ) → whole p ≡ Ok b
      → (c : Cell) × (f t : List ℕ) × (wire p.0 ≡ Ok c) × (frame c ≡ Some f) × (bytes p.1 ≡ Ok t)
      × (b ≡ (to_be_bytes w32 oid ++ f) ++ t)
  whole_parts p b e =
      let x = concat_parts (field_bytes oid (wire p.0)) (bytes p.1) b e in
      let y = appended_parts (to_be_bytes w32 oid) (frame_bytes (wire p.0)) x.0 x.2 in
      let z = frame_parts (wire p.0) y.0 y.1 in
      (z.0, y.0, x.1, z.1, z.2, x.3, x.4 ∙ ap (λ a. a ++ x.1) y.2)

  from_cells : (cs : List Cell) (u : List ℕ) (p : A × B) (b : List ℕ) → CellThen reads others cs u (Ok p)
      → whole p ≡ Ok b → Fields b (Ok p)
  from_cells [] u p b h e = absurd h
  from_cells (c ∷ cs) u p b h e =
      let w = whole_parts p b e in
      let read : Both (reads w.0) (others w.2) (Ok p) =
      (kept same reads wire back law c p.0 w.0 h.0 w.3, laws.from_bytes u p.1 w.2 h.1 w.5) in
      subst (λ x. Fields x (Ok p)) (sym w.6) (reads_fields w.0 w.1 w.2 w.4 (Ok p) read)

  from_fields_bytes : (s : List ℕ) (p : A × B) (b : List ℕ) → Fields s (Ok p) → whole p ≡ Ok b → Fields b (Ok p)
  from_fields_bytes s p b h e =
      let k = value_given (oid_fault oid s) (FrameThen reads others _) p h in
      from_cells k.cells k.rest p b k.holds e

  fields_back_reads : (p : A × B) (b : List ℕ) (o : Outcome (A × B)) → whole p ≡ Ok b
      → Both (back p.0) (others_back p.1) o → Fields b o
  fields_back_reads p b o e k =
      let w = whole_parts p b e in
      let read = both_map (back p.0) (reads w.0) (others_back p.1) (others w.2) (λ x. law.back_reads p.0 w.0 x w.3)
      (λ x. laws.back_reads p.1 w.2 x w.5) o k in
      subst (λ x. Fields x o) (sym w.6) (reads_fields w.0 w.1 w.2 w.4 o read)

  fields_reads_back : (p : A × B) (b : List ℕ) (o : Outcome (A × B)) → whole p ≡ Ok b → Fields b o
      → Both (back p.0) (others_back p.1) o
  fields_reads_back p b o e k =
      let w = whole_parts p b e in
      both_map (reads w.0) (back p.0) (others w.2) (others_back p.1) (λ x. law.reads_back p.0 w.0 x w.3)
      (λ x. laws.reads_back p.1 w.2 x w.5) o (from_fields w.0 w.1 w.2 w.4 o (subst (λ x. Fields x o) w.6 k))

  same_whole : (p q : A × B) → SamePair same alike p q → whole p ≡ whole q
  same_whole p q h = ap (λ w. concat_bytes (field_bytes oid w) (bytes p.1)) (law.same_wire p.0 q.0 h.0)
      ∙ ap (concat_bytes (field_bytes oid (wire q.0))) (laws.same_bytes p.1 q.1 h.1)

  -- a field, followed by others, is lawful with them
  pub field_lawful : AreLawful (SamePair same alike) Fields whole (λ p. Both (back p.0) (others_back p.1))
  field_lawful = record {
    same_bytes = same_whole;
    same_back = λ p q o h. both_map (back p.0) (back q.0) (others_back p.1) (others_back q.1)
        (λ x. law.same_back p.0 q.0 x h.0) (λ x. laws.same_back p.1 q.1 x h.1) o;
    from_bytes = from_fields_bytes;
    back_reads = fields_back_reads;
    reads_back = fields_reads_back;
  }

-- ---- the end
no_bytes : (b : List ℕ) (x : Bytes) → x ≡ Ok [] → x ≡ Ok b → b ≡ []
no_bytes b x h e = cc

pub end_lawful : AreLawful (λ (u v : Unit {0}). Unit {0}) AtEnd (λ u. Ok []) (λ u. IsDone)
end_lawful = record {
  same_bytes = λ v w h. refl;
  same_back = λ v w o h k. k;
  from_bytes = λ s v b h e. subst (λ x. AtEnd x (Ok v)) (sym (no_bytes b (Ok []) refl e)) tt;
  back_reads = λ v b o e h. subst (λ x. AtEnd x o) (sym (no_bytes b (Ok []) refl e)) h;
  reads_back = λ v b o e h. subst (λ x. AtEnd x o) (no_bytes b (Ok []) refl e) h;
}

-- ---- a record
module _ {A : Type 0} (n : ℕ) (same : A → A → Type 0) (fields : List ℕ → Outcome A → Type 0) (bytes : A → Bytes)
    (back : A → Outcome A → Type 0) (laws : AreLawful same fields bytes back) where
  record_parts : (x y : Bytes) (c : Cell) → bytes_cell (concat_bytes x y) ≡ Ok c
      → (h t : List ℕ) × (x ≡ Ok h) × (y ≡ Ok t) × (c ≡ Some (h ++ t))
  record_parts (Err r) y c e = let no : ⊥ = cc in absurd no
  record_parts (Ok h) (Err r) c e = let no : ⊥ = cc in absurd no
  record_parts (Ok h) (Ok t) c e = (h, t, refl, refl, cc)

  -- the number of the fields and the fields read as the record
  count_then : (h t : List ℕ) (o : Outcome A) → or_transmit (count_bytes n) ≡ Ok h → fields t o
      → CountThen n fields (h ++ t) o
  count_then h t o e k =
      let count = count_is n h (or_transmit_parts (count_bytes n) h e) in
      let rest : after_number (h ++ t) ≡ t = (number_then (h ++ t) h t (pos n) refl count).rest in
      past_check (count_fault n (h ++ t)) _ o (count_passes n h t count) (subst (λ x. fields x o) (sym rest) k)

  from_count : (h t : List ℕ) (o : Outcome A) → or_transmit (count_bytes n) ≡ Ok h → CountThen n fields (h ++ t) o
      → fields t o
  from_count h t o e k =
      let count = count_is n h (or_transmit_parts (count_bytes n) h e) in
      let rest : after_number (h ++ t) ≡ t = (number_then (h ++ t) h t (pos n) refl count).rest in
      subst (λ x. fields x o) rest (from_check (count_fault n (h ++ t)) _ o (count_passes n h t count) k)

  written_by : (v : A) (x y : Bytes) → x ≡ or_transmit (count_bytes n) → ((t : List ℕ) → y ≡ Ok t → fields t (Ok v))
      → WrittenAsBytes (ReadsRecord n fields) v (bytes_cell (concat_bytes x y))
  written_by v (Err r) y e h = tt
  written_by v (Ok a) (Err r) e h = tt
  written_by v (Ok a) (Ok t) e h = count_then a t (Ok v) (sym e) (h t refl)

  record_from_bytes : (s : List ℕ) (v : A) → ReadsRecord n fields (Some s) (Ok v)
      → WrittenAsBytes (ReadsRecord n fields) v (wire_record n (bytes v))
  record_from_bytes s v h = written_by v (or_transmit (count_bytes n)) (bytes v) refl
      (λ t. laws.from_bytes _ v t (value_given (count_fault n s) (fields _) v h))

  record_back_reads : (v : A) (c : Cell) (o : Outcome A) → wire_record n (bytes v) ≡ Ok c → back v o
      → ReadsRecord n fields c o
  record_back_reads v c o e h =
      let p = record_parts (or_transmit (count_bytes n)) (bytes v) c e in
      subst (λ x. ReadsRecord n fields x o) (sym p.4) (count_then p.0 p.1 o p.2 (laws.back_reads v p.1 o p.3 h))

  record_reads_back : (v : A) (c : Cell) (o : Outcome A) → wire_record n (bytes v) ≡ Ok c → ReadsRecord n fields c o
      → back v o
  record_reads_back v c o e h =
      let p = record_parts (or_transmit (count_bytes n)) (bytes v) c e in
      laws.reads_back v p.1 o p.3 (from_count p.0 p.1 o p.2 (subst (λ x. ReadsRecord n fields x o) p.4 h))

  -- a record is lawful if its fields are
  pub record_lawful : IsLawful same (ReadsRecord n fields) (λ v. wire_record n (bytes v)) back
  record_lawful = record {
    same_wire = λ v w h. ap (wire_record n) (laws.same_bytes v w h);
    same_back = laws.same_back;
    from_bytes = record_from_bytes;
    from_null = λ v h. absurd h;
    back_reads = record_back_reads;
    reads_back = record_reads_back;
  }
