-- The three fields of an inventory item.
use Rattle.std.proofs.Common.{◌≡◌, ◌&&◌, IsTrue, List, [], ◌∷◌, length, get_or, refl, ◌∙◌, Bool, true, false, ℕ, ℤ}
use Rattle.std.proofs.Common.{Option}
use Rattle.std.proofs.Common.{Some, None, Ok, FitsSigned, w32}
use Rattle.pg_types.specs.Content.{Content, FieldsContent, NoFields, FieldAnd, content, field_type, fields_content}
use Rattle.pg_types.specs.Content.{is_row}
use Rattle.pg_types.specs.declared.types.built_in.BuiltIn.TheVariants.{Int4, Int8}
use Rattle.pg_types.specs.declared.types.kind.Field.{Field}
use Rattle.pg_base.specs.Cells.{Cell}
use Rattle.pg_base.specs.Counts.{after_number}
use Rattle.pg_base.specs.Numbers.{ReadsSigned}
use Rattle.pg_base.specs.Texts.{accepted_text}
use Rattle.pg_read.specs.FrameReading.{ReadsFirst}
use Rattle.pg_read.specs.Reading.{EveryCell}
use Rattle.pg_types.specs.Faults.{Refusal}
use Rattle.postgres_types.proofs.RecordSteps.{counted}
use Rattle.postgres_types.specs.Laws.CompositeFields.{both_true}
use Rattle.postgres_types.specs.Records.{ReadsNext, count_of, oid_fault}
use Rattle.pg_record.specs.InventoryItems.{accepts_row}

-- a field of which none is left is not accepted
not_false : (t : Bool) → IsTrue (t && false) → ⊥
not_false true ok = cc
not_false false ok = cc

-- accepted fields are three
pub three : (fs : FieldsContent) → IsTrue (accepts_row fs) → count_of fs ≡ 3
three NoFields ok = let no : ⊥ = cc in absurd no
three (FieldAnd a s NoFields) ok = absurd (not_false (accepted_text s) ok)
three (FieldAnd a s (FieldAnd b t NoFields)) ok =
    let p = both_true (accepted_text s) _ ok in
    absurd (not_false (is_row Int4 t) p.1)
three (FieldAnd a s (FieldAnd b t (FieldAnd c u NoFields))) ok = refl
three (FieldAnd a s (FieldAnd b t (FieldAnd c u (FieldAnd d x fs)))) ok =
    let p = both_true (accepted_text s) _ ok in
    let q = both_true (is_row Int4 t) _ p.1 in
    absurd (not_false (is_row Int8 u) q.1)

-- a list of three fields is these three
pub these_three : (fs : List Field) (f g h : Field) → length fs ≡ 3 → f ≡ get_or fs 0 f → g ≡ get_or fs 1 g → h ≡ get_or fs 2 h
    → fs ≡ f ∷ g ∷ h ∷ []
these_three [] f g h n a b c = let no : ⊥ = cc in absurd no
these_three (x ∷ []) f g h n a b c = let no : ⊥ = cc in absurd no
these_three (x ∷ y ∷ []) f g h n a b c = let no : ⊥ = cc in absurd no
these_three (x ∷ y ∷ z ∷ []) f g h n a b c = cc
these_three (x ∷ y ∷ z ∷ w ∷ fs) f g h n a b c = let no : ⊥ = cc in absurd no

-- the types of three accepted fields
pub first_accepted : (f g h : Field) → IsTrue (accepts_row (fields_content (f ∷ g ∷ h ∷ [])))
    → IsTrue (accepted_text (content (field_type f)))
first_accepted f g h ok = (both_true (accepted_text (content (field_type f))) _ ok).0

pub second_accepted : (f g h : Field) → IsTrue (accepts_row (fields_content (f ∷ g ∷ h ∷ [])))
    → IsTrue (is_row Int4 (content (field_type g)))
second_accepted f g h ok =
    let p = both_true (accepted_text (content (field_type f))) _ ok in
    (both_true (is_row Int4 (content (field_type g))) _ p.1).0

pub third_accepted : (f g h : Field) → IsTrue (accepts_row (fields_content (f ∷ g ∷ h ∷ [])))
    → IsTrue (is_row Int8 (content (field_type h)))
third_accepted f g h ok =
    let p = both_true (accepted_text (content (field_type f))) _ ok in
    let q = both_true (is_row Int4 (content (field_type g))) _ p.1 in
    (both_true (is_row Int8 (content (field_type h))) _ q.1).0

-- a list of accepted fields has three
pub three_of_list : (fs : List Field) → IsTrue (accepts_row (fields_content fs)) → length fs ≡ 3
three_of_list fs ok = counted fs ∙ three (fields_content fs) ok

-- and is these three
pub accepted_three : (fs : List Field) (f g h : Field) → IsTrue (accepts_row (fields_content fs)) → f ≡ get_or fs 0 f
    → g ≡ get_or fs 1 g → h ≡ get_or fs 2 h → fs ≡ f ∷ g ∷ h ∷ []
accepted_three fs f g h ok = these_three fs f g h (three_of_list fs ok)

-- a number that a field gives fits its type
fits_in_cell : (s : List ℕ) (cs : List Cell) (rest new : List ℕ) (v : ℤ)
    → ReadsFirst (ReadsSigned w32) EveryCell s cs rest (Ok v) new → FitsSigned w32 v
fits_in_cell s [] rest new v h = absurd h.0
fits_in_cell s (None ∷ cs) rest new v h = absurd h.0
fits_in_cell s (Some b ∷ cs) rest new v h = h.0.0

fits_next : (x : Option Refusal) (s new : List ℕ) (v : ℤ) → ReadsNext x (ReadsSigned w32) EveryCell s (Ok v) new
    → FitsSigned w32 v
fits_next None s new v h = fits_in_cell (after_number s) h.cells h.rest new v h.holds
fits_next (Some r) s new v h = absurd h.0

pub field_fits : (oid : ℕ) (s new : List ℕ) (v : ℤ) → ReadsNext (oid_fault oid s) (ReadsSigned w32) EveryCell s (Ok v) new
    → FitsSigned w32 v
field_fits oid s = fits_next (oid_fault oid s) s
