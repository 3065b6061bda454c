-- Laws of the fields of a composite type.
use Rattle.std.specs.Prelude.{◌≡◌, ◌&&◌, ℕ, List, [], Ok, Bool, true, false, IsTrue, refl, suc}
use Rattle.std.proofs.Common.{ap}
use Rattle.pg_types.specs.Content.{Content, FieldsContent, NoFields, FieldAnd, oid_of}
use Rattle.pg_types.specs.Faults.{Outcome}
use Rattle.pg_base.specs.Appending.{Wire}
use Rattle.pg_base.specs.Cells.{Cell}
use Rattle.pg_base.specs.Sameness.{IsEquivalence}
use Rattle.pg_read.specs.Reading.{GivesSingle, ReadsSingle}
use Rattle.pg_read.specs.Laws.Reading.{through_gives_single}
use Rattle.pg_read.specs.Views.{Through}
use Rattle.postgres_types.specs.ReadingBack.{IsLawful}
use Rattle.postgres_types.specs.Laws.Record.{AreLawful, SamePair, end_lawful, end_single, field_lawful, field_single}
use Rattle.postgres_types.specs.Records.{AtEnd, Both, Bytes, FieldThen, IsDone, concat_bytes, count_of, field_bytes}
use Rattle.postgres_types.specs.Laws.ViewBack.{through_map}
use Rattle.postgres_types.specs.declared.composite.fields.End.{End}
use Rattle.postgres_types.specs.CompositeFields.{no_fields, nothing_in, ReadsEnd, BackEnd, pair_in, SameAnd}
use Rattle.postgres_types.specs.CompositeFields.{accepts_and, ReadsAnd, bytes_and, BackAnd}

-- fields that contain others are lawful if those are
pub through_are_lawful : {A B : Type 0} (inside : B → A) (same : A → A → Type 0) (reads : List ℕ → Outcome A → Type 0)
    (bytes : A → Bytes) (back : A → Outcome A → Type 0) → AreLawful same reads bytes back
    → AreLawful (λ v w. same (inside v) (inside w)) (λ s. Through inside (reads s)) (λ v. bytes (inside v))
    (λ v. Through inside (back (inside v)))
through_are_lawful inside same reads bytes back laws = record {
  same_bytes = λ v w h. laws.same_bytes (inside v) (inside w) h;
  same_back = λ v w o h. through_map inside (back (inside v)) (back (inside w))
      (λ x. laws.same_back (inside v) (inside w) x h) o;
  from_bytes = λ s v b h e. laws.from_bytes s (inside v) b h e;
  back_reads = λ v b o e. through_map inside (back (inside v)) (reads b) (λ x. laws.back_reads (inside v) b x e) o;
  reads_back = λ v b o e. through_map inside (reads b) (back (inside v)) (λ x. laws.reads_back (inside v) b x e) o;
}

pub no_fields_equivalence : IsEquivalence (λ (v w : End). Unit {0})
no_fields_equivalence = record { reflexive = λ v. tt; symmetric = λ v w h. tt; transitive = λ u v w h k. tt }

pub no_fields_single : (fs : FieldsContent) (s : List ℕ) → GivesSingle (λ (v w : End). Unit {0}) (ReadsEnd fs s)
no_fields_single fs s = through_gives_single nothing_in (λ u v. Unit {0}) (AtEnd s) (end_single s)

pub no_fields_lawful : (fs : FieldsContent)
    → AreLawful (λ (v w : End). Unit {0}) (ReadsEnd fs) (λ v. Ok []) (BackEnd fs)
no_fields_lawful fs = through_are_lawful nothing_in (λ u v. Unit {0}) AtEnd (λ u. Ok []) (λ u. IsDone) end_lawful

pub and_equivalence : {A B : Type 0} (same : A → A → Type 0) (alike : B → B → Type 0) → IsEquivalence same
    → IsEquivalence alike → IsEquivalence (SameAnd same alike)
and_equivalence same alike e f = record {
  reflexive = λ v. (e.reflexive v.0, f.reflexive v.1);
  symmetric = λ v w h. (e.symmetric v.0 w.0 h.0, f.symmetric v.1 w.1 h.1);
  transitive = λ u v w h k. (e.transitive u.0 v.0 w.0 h.0 k.0, f.transitive u.1 v.1 w.1 h.1 k.1);
}

-- the types of fields are accepted in both directions if each type is
pub and_types : (read written : Content → Bool) (reads writes : FieldsContent → Bool)
    → ((ty : Content) → read ty ≡ written ty) → ((fs : FieldsContent) → reads fs ≡ writes fs)
    → (fs : FieldsContent) → accepts_and read reads fs ≡ accepts_and written writes fs
and_types read written reads writes one others NoFields = refl
and_types read written reads writes one others (FieldAnd name ty fs) = rw (one ty, others fs) refl

pub both_true : (t u : Bool) → IsTrue (t && u) → IsTrue t × IsTrue u
both_true true u h = (refl, h)
both_true false u h = let no : ⊥ = cc in absurd no

-- the number of fields that are accepted is the number that is written
pub no_fields_width : (fs : FieldsContent) → IsTrue (no_fields fs) → count_of fs ≡ 0
no_fields_width NoFields ok = refl
no_fields_width (FieldAnd name ty fs) ok = let no : ⊥ = cc in absurd no

pub and_width : (written : Content → Bool) (writes : FieldsContent → Bool) (width : ℕ)
    → ((fs : FieldsContent) → IsTrue (writes fs) → count_of fs ≡ width)
    → (fs : FieldsContent) → IsTrue (accepts_and written writes fs) → count_of fs ≡ suc width
and_width written writes width counted NoFields ok = let no : ⊥ = cc in absurd no
and_width written writes width counted (FieldAnd name ty fs) ok =
    ap suc (counted fs (both_true (written ty) (writes fs) ok).1)

module _ {A B : Type 0} (same : A → A → Type 0) (accepts : Content → Bool) (reads : Content → Cell → Outcome A → Type 0)
    (alike : B → B → Type 0) (takes : FieldsContent → Bool) (others : FieldsContent → List ℕ → Outcome B → Type 0) where
  pub and_single : ((ty : Content) → IsTrue (accepts ty) → ReadsSingle same (reads ty))
      → ((fs : FieldsContent) → IsTrue (takes fs) → (s : List ℕ) → GivesSingle alike (others fs s))
      → (fs : FieldsContent) → IsTrue (accepts_and accepts takes fs) → (s : List ℕ)
      → GivesSingle (SameAnd same alike) (ReadsAnd reads others fs s)
  and_single one two NoFields ok s = let no : ⊥ = cc in absurd no
  and_single one two (FieldAnd name ty fs) ok s =
      let p = both_true (accepts ty) (takes fs) ok in
      through_gives_single pair_in (SamePair same alike) (FieldThen (oid_of ty) (reads ty) (others fs) s)
      (field_single same alike (reads ty) (others fs) (one ty p.0) (two fs p.1) (oid_of ty) s)

  pub and_lawful : (wire : Content → A → Wire) (back : Content → A → Outcome A → Type 0)
      (bytes : FieldsContent → B → Bytes) (others_back : FieldsContent → B → Outcome B → Type 0)
      → ((ty : Content) → IsTrue (accepts ty) → IsLawful same (reads ty) (wire ty) (back ty))
      → ((fs : FieldsContent) → IsTrue (takes fs) → AreLawful alike (others fs) (bytes fs)
      (others_back fs))
      → (fs : FieldsContent) → IsTrue (accepts_and accepts takes fs)
      → AreLawful (SameAnd same alike) (ReadsAnd reads others fs) (bytes_and wire bytes fs)
      (BackAnd back others_back fs)
  and_lawful wire back bytes others_back one two NoFields ok = let no : ⊥ = cc in absurd no
  and_lawful wire back bytes others_back one two (FieldAnd name ty fs) ok =
      let p = both_true (accepts ty) (takes fs) ok in
      through_are_lawful pair_in (SamePair same alike) (FieldThen (oid_of ty) (reads ty) (others fs))
      (λ q. concat_bytes (field_bytes (oid_of ty) (wire ty q.0)) (bytes fs q.1))
      (λ q. Both (back ty q.0) (others_back fs q.1))
      (field_lawful (oid_of ty) same (reads ty) (wire ty) (back ty) (one ty p.0) alike (others fs) (bytes fs)
      (others_back fs) (two fs p.1))
