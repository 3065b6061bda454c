-- JSON documents are read, written and read back as their texts are.
use Rattle.std.specs.Prelude.{◌≡◌, ◌&&◌, ℕ, List, Bool, true, false, IsTrue, Some, None, Ok, Err, refl}
use Rattle.std.proofs.Common.{ap, subst, sym, ◌∙◌}
use Rattle.std.proofs.lemmas.Bool.{and_parts}
use Rattle.pg_types.specs.Content.{Content}
use Rattle.pg_types.specs.Faults.{Outcome}
use Rattle.pg_base.specs.Appending.{Wire}
use Rattle.pg_base.specs.Cells.{Cell, versioned_cell}
use Rattle.pg_base.specs.Json.{accepted_json}
use Rattle.pg_read.specs.Reading.{GivesSingle, ReadsSingle}
use Rattle.postgres_types.specs.JsonTexts.{OfText, ReadsDocument, accepts_document, document_cell, document_text}
use Rattle.postgres_types.specs.JsonTexts.{text_type, wire_document}
use Rattle.postgres_types.specs.ReadingBack.{IsLawful, WrittenAsBytes, WrittenAsCell}

-- if documents are accepted, a text is
pub text_accepted : (accepted : Content → Bool) (ty : Content) → IsTrue (accepts_document accepted ty)
    → IsTrue (accepted text_type)
text_accepted accepted ty ok = (and_parts (accepted_json ty) (accepted text_type) ok).1

-- both directions accept the same if they do for texts
pub document_types : (reading writing : Content → Bool) → ((ty : Content) → reading ty ≡ writing ty)
    → (ty : Content) → accepts_document reading ty ≡ accepts_document writing ty
document_types reading writing same ty = ap (λ t. accepted_json ty && t) (same text_type)

module _ {A : Type 0} (same : A → A → Type 0) (reads : Cell → Outcome A → Type 0) where
  of_text_single : ReadsSingle same reads → (text : Outcome (List ℕ)) → GivesSingle same (OfText reads text)
  of_text_single single (Ok text) r s h k = single (Some text) r s h k
  of_text_single single (Err e) (Ok v) s h k = absurd h
  of_text_single single (Err e) (Err r) (Ok w) h k = absurd k
  of_text_single single (Err e) (Err r) (Err s) h k = h ∙ sym k

  -- if a text has one outcome, so has a document
  pub document_single : (versioned : Bool) → ReadsSingle same reads
      → ReadsSingle same (ReadsDocument versioned reads)
  document_single versioned single None = single None
  document_single versioned single (Some b) = of_text_single single (document_text versioned b)

-- the text of a written document is the one that was written
text_back : (versioned : Bool) (text : List ℕ)
    → document_text versioned (versioned_cell versioned text) ≡ Ok text
text_back false text = refl
text_back true text = refl

-- what is written as a cell comes from a cell of the text
written_from : (versioned : Bool) (w : Wire) (c : Cell) → wire_document versioned w ≡ Ok c
    → (text : Cell) × (w ≡ Ok text) × (document_cell versioned text ≡ c)
written_from versioned (Ok text) c e = (text, refl, cc)
written_from versioned (Err r) c e = let bad : ⊥ = cc in absurd bad

module _ {A : Type 0} (reads : Cell → Outcome A → Type 0) (versioned : Bool) where
  abbrev Reads : Cell → Outcome A → Type 0
  Reads = ReadsDocument versioned reads

  document_reads : (c : Cell) (o : Outcome A) → reads c o → Reads (document_cell versioned c) o
  document_reads None o h = h
  document_reads (Some text) o h = subst (λ t. OfText reads t o) (sym (text_back versioned text)) h

  reads_text : (c : Cell) (o : Outcome A) → Reads (document_cell versioned c) o → reads c o
  reads_text None o h = h
  reads_text (Some text) o h = subst (λ t. OfText reads t o) (text_back versioned text) h

  some_text : (text : Outcome (List ℕ)) (v : A) → OfText reads text (Ok v) → (b : List ℕ) × reads (Some b) (Ok v)
  some_text (Ok b) v h = (b, h)
  some_text (Err r) v h = absurd h

  as_bytes : (v : A) (w : Wire) → WrittenAsBytes reads v w → WrittenAsBytes Reads v (wire_document versioned w)
  as_bytes v (Ok None) h = h
  as_bytes v (Ok (Some b)) h = document_reads (Some b) (Ok v) h
  as_bytes v (Err r) h = tt

  as_cell : (v : A) (w : Wire) → WrittenAsCell reads v w → WrittenAsCell Reads v (wire_document versioned w)
  as_cell v (Ok c) h = document_reads c (Ok v) h
  as_cell v (Err r) h = tt

  -- documents are lawful if texts are
  pub document_lawful : (same : A → A → Type 0) (wire : A → Wire) (back : A → Outcome A → Type 0)
      → IsLawful same reads wire back → IsLawful same Reads (λ v. wire_document versioned (wire v)) back
  document_lawful same wire back law = record {
    same_wire = λ v w h. ap (wire_document versioned) (law.same_wire v w h);
    same_back = law.same_back;
    from_bytes = λ b v h. let text = some_text (document_text versioned b) v h in
        as_bytes v (wire v) (law.from_bytes text.0 v text.1);
    from_null = λ v h. as_cell v (wire v) (law.from_null v h);
    back_reads = λ v c o e h. let text = written_from versioned (wire v) c e in
        subst (λ d. Reads d o) text.2 (document_reads text.0 o (law.back_reads v text.0 o text.1 h));
    reads_back = λ v c o e h. let text = written_from versioned (wire v) c e in
        law.reads_back v text.0 o text.1 (reads_text text.0 o (subst (λ d. Reads d o) (sym text.2) h));
  }
