-- A cell of an enumerated type has one outcome, and a value is read back as itself.
use Rattle.std.specs.Prelude.{◌≡◌, ℕ, zero, suc, ◌==◌, ◌&&◌, ◌||◌, List, [], ◌∷◌, length, Bool, true, false, not}
use Rattle.std.specs.Prelude.{Option, Some, None, IsTrue, nat_le, slice_get, refl}
use Rattle.std.specs.Cmp.Lexicographic.{pointwise}
use Rattle.std.proofs.Common.{sym, ◌∙◌, ap, subst}
use Rattle.std.proofs.lemmas.Bool.{and_parts}
use Rattle.pg_types.specs.Laws.Equality.{bytes-self}
use Rattle.pg_base.specs.Formats.{IsGrammar}
use Rattle.pg_read.specs.Reading.{ReadsSingle}
use Rattle.pg_read.specs.Laws.Reading.{plain_single}
use Rattle.postgres_types.specs.Enums.{FormLabel, ReadsLabel, are_labels, first_fault_label, has_label, wire_at}
use Rattle.postgres_types.specs.Enums.{wire_label}
use Rattle.postgres_types.specs.ReadingBack.{BackKept, IsLawful}
use Rattle.postgres_types.specs.Laws.Plain.{WrittenAsKept, kept_lawful}

or_true : (t : Bool) → (t || true) ≡ true
or_true true = refl
or_true false = refl

not_true : (t : Bool) → not t ≡ true → t ≡ false
not_true true h = cc
not_true false h = refl

-- a label at an index is among the labels
label_in : (labels : List (List ℕ)) (i : ℕ) (b : List ℕ) → slice_get labels i ≡ Some b → has_label labels b ≡ true
label_in [] i b h = let no : ⊥ = cc in absurd no
label_in (label ∷ others) zero b h =
    let e : label ≡ b = cc in
    let found : (pointwise ◌==◌ label label || has_label others label) ≡ true = rw (bytes-self label) refl in
    subst (λ s. (pointwise ◌==◌ label s || has_label others s) ≡ true) e found
label_in (label ∷ others) (suc i) b h = ap (λ t. pointwise ◌==◌ label b || t) (label_in others i b h)
    ∙ or_true (pointwise ◌==◌ label b)

-- the parts of the property that labels have
first_and_others : (label : List ℕ) (others : List (List ℕ)) → IsTrue (are_labels (label ∷ others))
    → (has_label others label ≡ false) × (are_labels others ≡ true)
first_and_others label others ok =
    let p = and_parts (nat_le (length label) 63) (not (has_label others label) && are_labels others) ok in
    let q = and_parts (not (has_label others label)) (are_labels others) p.1 in
    (not_true (has_label others label) q.0, q.1)

-- the first label does not occur again
no_second : (label : List ℕ) (others : List (List ℕ)) (i : ℕ) (b : List ℕ) → IsTrue (are_labels (label ∷ others))
    → Some label ≡ Some b → slice_get others i ≡ Some b → ⊥
no_second label others i b ok h k =
    let e : b ≡ label = cc in
    let found = label_in others i label (subst (λ s. slice_get others i ≡ Some s) e k) in
    let first = (first_and_others label others ok).0 in cc

-- a label has one index
label_place : (labels : List (List ℕ)) → IsTrue (are_labels labels) → (i j : ℕ) (b : List ℕ)
    → slice_get labels i ≡ Some b → slice_get labels j ≡ Some b → i ≡ j
label_place [] ok i j b h k = let no : ⊥ = cc in absurd no
label_place (label ∷ others) ok zero zero b h k = refl
label_place (label ∷ others) ok zero (suc j) b h k = absurd (no_second label others j b ok h k)
label_place (label ∷ others) ok (suc i) zero b h k = absurd (no_second label others i b ok k h)
label_place (label ∷ others) ok (suc i) (suc j) b h k =
    ap suc (label_place others (first_and_others label others ok).1 i j b h k)

module _ (labels : List (List ℕ)) (ok : IsTrue (are_labels labels)) where
  -- a label passes both checks
  label_passes : (b : List ℕ) (i : ℕ) → FormLabel labels b i → first_fault_label labels b ≡ None
  label_passes b i h = rw (label_in labels i b h) refl

  -- labels are a grammar
  label_grammar : IsGrammar (λ i j. i ≡ j) (FormLabel labels) (first_fault_label labels)
  label_grammar = record { passes = label_passes; single = λ b i j h k. label_place labels ok i j b h k }

  -- a cell has at most one outcome
  pub label_single : ReadsSingle (λ i j. i ≡ j) (ReadsLabel labels)
  label_single = plain_single (λ i j. i ≡ j) (FormLabel labels) (first_fault_label labels) label_grammar

  -- an index is written as its label
  label_written_at : (i : ℕ) (found : Option (List ℕ)) → slice_get labels i ≡ found
      → WrittenAsKept (FormLabel labels) (first_fault_label labels) (λ i j. i ≡ j) i (wire_at found)
  label_written_at i None e = tt
  label_written_at i (Some b) e = (
    label_passes b i e,
    λ j h. subst (FormLabel labels b) h e,
    λ j h. label_place labels ok i j b e h,
  )

  -- an index is read back as itself
  pub label_lawful : IsLawful (λ i j. i ≡ j) (ReadsLabel labels) (wire_label labels) (BackKept (λ i j. i ≡ j))
  label_lawful = kept_lawful (FormLabel labels) (first_fault_label labels) (λ i j. i ≡ j) (λ i j. i ≡ j)
      (wire_label labels) (λ i j h. ap (wire_label labels) h) (λ i j k h e. sym h ∙ e) (λ b i h. refl)
      (λ i. label_written_at i (slice_get labels i) refl)
