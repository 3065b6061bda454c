-- Laws of reading lists: the cell of a list has at most one outcome, if the cells of its elements have.
use Rattle.std.specs.Prelude.{◌≡◌, ℕ, List, [], ◌∷◌, take, Option, Some, None, Ok, Err, Bool, IsTrue}
use Rattle.std.proofs.Common.{sym, ◌∙◌, subst, inl, inr, true≢false}
use Rattle.pg_base.proofs.ArrayLaws.{body_single, head_passes}
use Rattle.pg_base.specs.Arrays.{head_checks}
use Rattle.pg_base.specs.Cells.{Cell}
use Rattle.pg_types.specs.Content.{Content}
use Rattle.pg_types.specs.Faults.{Refusal, Outcome}
use Rattle.pg_base.specs.Formats.{Checks, first_fault_of}
use Rattle.pg_base.specs.ArrayTypes.{accepted_list, accepted_element, element_of}
use Rattle.pg_base.specs.Sameness.{SameList}
use Rattle.pg_read.specs.ArrayReading.{DecodesArray, ElementsGive, ReadsAll, ReadsArray, ReadsChecked, ReadsElements}
use Rattle.pg_read.specs.ArrayReading.{ReadsFixed, ReadsList, ReadsByElement, end_checks, fixed_checks}
use Rattle.pg_read.specs.Reading.{SameOutcome, GivesSingle, ReadsSingle}
use Rattle.pg_read.specs.Laws.Reading.{no_fault, not_null_single}

module _ {A : Type 0} (same : A → A → Type 0) (reads : Cell → Outcome A → Type 0)
    (single : ReadsSingle same reads) where
  -- cells give one list, or one fault
  pub all_single : (cs : List Cell) (r s : Outcome (List A)) → ReadsAll reads cs r → ReadsAll reads cs s
      → SameOutcome (SameList same) r s
  all_single [] (Ok []) (Ok []) h k = tt
  all_single [] (Ok []) (Ok (w ∷ ws)) h k = absurd k
  all_single [] (Ok []) (Err f) h k = absurd k
  all_single [] (Ok (v ∷ vs)) s h k = absurd h
  all_single [] (Err r) s h k = absurd h
  all_single (c ∷ cs) (Ok []) s h k = absurd h
  all_single (c ∷ cs) (Ok (v ∷ vs)) (Ok []) h k = absurd k
  all_single (c ∷ cs) (Ok (v ∷ vs)) (Ok (w ∷ ws)) h k =
      (single c (Ok v) (Ok w) h.0 k.0, all_single cs (Ok vs) (Ok ws) h.1 k.1)
  all_single (c ∷ cs) (Ok (v ∷ vs)) (Err f) h k =
      elim k [ inl y ↦ single c (Ok v) (Err f) h.0 y | inr y ↦ all_single cs (Ok vs) (Err f) h.1 y.2 ]
  all_single (c ∷ cs) (Err r) (Ok []) h k = absurd k
  all_single (c ∷ cs) (Err r) (Ok (w ∷ ws)) h k =
      elim h [ inl z ↦ single c (Err r) (Ok w) z k.0 | inr z ↦ all_single cs (Err r) (Ok ws) z.2 k.1 ]
  all_single (c ∷ cs) (Err r) (Err f) h k = elim h [
    | inl z ↦ elim k [ inl y ↦ single c (Err r) (Err f) z y | inr y ↦ absurd (single c (Err r) (Ok y.0) z y.1) ]
    | inr z ↦ elim k [
      | inl y ↦ absurd (single c (Ok z.0) (Err f) z.1 y)
      | inr y ↦
          all_single cs (Err r) (Err f) z.2 y.2
    ]
  ]

  -- and also with checks after them
  pub checked_single : (checks : Checks) (cs : List Cell) (r s : Outcome (List A)) → ReadsChecked reads checks cs r
      → ReadsChecked reads checks cs s → SameOutcome (SameList same) r s
  checked_single checks cs (Ok vs) (Ok ws) h k = all_single cs (Ok vs) (Ok ws) h.0 k.0
  checked_single checks cs (Ok vs) (Err f) h k =
      elim k [
        | inl y ↦ all_single cs (Ok vs) (Err f) h.0 y
        | inr y ↦
            absurd (no_fault (first_fault_of checks) f h.1 y.2)
      ]
  checked_single checks cs (Err r) (Ok ws) h k =
      elim h [
        | inl z ↦ all_single cs (Err r) (Ok ws) z k.0
        | inr z ↦
            absurd (no_fault (first_fault_of checks) r k.1 z.2)
      ]
  checked_single checks cs (Err r) (Err f) h k = elim h [
    | inl z ↦ elim k [
      | inl y ↦ all_single cs (Err r) (Err f) z y
      | inr y ↦
          absurd (all_single cs (Err r) (Ok y.0) z y.1)
    ]
    | inr z ↦ elim k [
      | inl y ↦ absurd (all_single cs (Ok z.0) (Err f) z.1 y)
      | inr y ↦ let e : Some r ≡ Some f =
          sym z.2 ∙ y.2 in cc
    ]
  ]

-- elements in this number have one outcome
abbrev pub ElementsSingle : {A : Type 0} → (A → A → Type 0) → (ℕ → List Cell → List ℕ → Outcome (List A) → Type 0)
    → Type 0
ElementsSingle {A} same elements =
    (n : ℕ) (cs : List Cell) (rest : List ℕ) (r s : Outcome (List A)) → elements n cs rest r → elements n cs rest s
    → SameOutcome (SameList same) r s

-- if elements have one outcome, so has the cell of their array
module _ {A X : Type 0} (items : X → List A) (same : A → A → Type 0)
    (elements : ℕ → List Cell → List ℕ → Outcome (List A) → Type 0) (single : ElementsSingle same elements) where
  body_outcome : (b : List ℕ) (r s : Outcome (List A)) → ElementsGive elements b r → ElementsGive elements b s
      → SameOutcome (SameList same) r s
  body_outcome b r s h k =
      let e = body_single b h.count k.count h.cells k.cells h.rest k.rest h.body k.body in
      single h.count h.cells h.rest r s h.gives (subst (λ x. elements x h.cells h.rest s) (sym e.0)
      (subst (λ x. elements k.count x h.rest s) (sym e.1)
      (subst (λ x. elements k.count k.cells x s) (sym e.2) k.gives)))

  no_head_fault : (b : List ℕ) (o : Outcome (List A)) (r : Refusal) → ElementsGive elements b o
      → first_fault_of (head_checks b) ≡ Some r → ⊥
  no_head_fault b o r h e = no_fault (first_fault_of (head_checks b)) r
      (head_passes b (record { left = h.count; bytes = h.body.0 }) h.body.1) e

  one_decoded : (b : List ℕ) → GivesSingle (λ x y. SameList same (items x) (items y)) (DecodesArray items elements b)
  one_decoded b (Ok x) (Ok y) h k = body_outcome b (Ok (items x)) (Ok (items y)) h k
  one_decoded b (Ok x) (Err f) h k = elim k [
    | inl y ↦ no_head_fault b (Ok (items x)) f h y
    | inr y ↦ body_outcome b (Ok (items x)) (Err f) h y
  ]
  one_decoded b (Err r) (Ok y) h k = elim h [
    | inl z ↦ no_head_fault b (Ok (items y)) r k z
    | inr z ↦ body_outcome b (Err r) (Ok (items y)) z k
  ]
  one_decoded b (Err r) (Err f) h k = elim h [
    | inl z ↦ elim k [
      | inl y ↦ let e : Some r ≡ Some f = sym z ∙ y in cc
      | inr y ↦
          absurd (no_head_fault b (Err f) r y z)
    ]
    | inr z ↦ elim k [
      | inl y ↦ absurd (no_head_fault b (Err r) f z y)
      | inr y ↦
          body_outcome b (Err r) (Err f) z y
    ]
  ]

  pub array_single : ReadsSingle (λ x y. SameList same (items x) (items y)) (ReadsArray items elements)
  array_single = not_null_single (λ x y. SameList same (items x) (items y)) (DecodesArray items elements) one_decoded

-- if the lists for each accepted element type have one outcome, so has an accepted array
module _ {X : Type 0} (same : X → X → Type 0) (inside : Content → Bool) (lists : Content → Cell → Outcome X → Type 0)
    (single : (element : Content) → IsTrue (inside element) → ReadsSingle same (lists element)) where
  by_element_single : (element : Option Content) → IsTrue (accepted_element inside element)
      → ReadsSingle same (ReadsByElement lists element)
  by_element_single None h = absurd (true≢false (sym h))
  by_element_single (Some element) h = single element h

  pub by_elements_single : (ty : Content) → IsTrue (accepted_list inside ty)
      → ReadsSingle same (ReadsByElement lists (element_of ty))
  by_elements_single ty h = by_element_single (element_of ty) h

-- the elements of a list, read by what has one outcome, have one outcome
pub list_single : {A X : Type 0} (items : X → List A) (same : A → A → Type 0) (reads : Cell → Outcome A → Type 0)
    → ReadsSingle same reads → ReadsSingle (λ x y. SameList same (items x) (items y)) (ReadsList items reads)
list_single items same reads single =
    array_single items same (ReadsElements reads)
    (λ n cs rest. checked_single same reads single (end_checks n cs rest) cs)

-- and so have the elements if a number of values is expected
pub fixed_single : {A X : Type 0} (items : X → List A) (expected : ℕ) (same : A → A → Type 0)
    (reads : Cell → Outcome A → Type 0) → ReadsSingle same reads
    → ReadsSingle (λ x y. SameList same (items x) (items y)) (ReadsArray items (ReadsFixed expected reads))
fixed_single items expected same reads single =
    array_single items same (ReadsFixed expected reads)
    (λ n cs rest. checked_single same reads single (fixed_checks expected n cs rest) (take expected cs))
