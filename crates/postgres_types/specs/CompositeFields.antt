-- The fields of a composite type, one after another, by their types.
use Rattle.std.specs.Prelude.{◌&&◌, ℕ, List, [], Ok, Bool, true, false}
use Rattle.pg_types.specs.Content.{Content, FieldsContent, NoFields, FieldAnd, oid_of}
use Rattle.pg_types.specs.Faults.{Outcome}
use Rattle.pg_base.specs.Appending.{Wire}
use Rattle.pg_base.specs.Cells.{Cell}
use Rattle.pg_read.specs.Views.{Through}
use Rattle.postgres_types.specs.Laws.Record.{SamePair}
use Rattle.postgres_types.specs.Records.{AtEnd, Both, Bytes, FieldThen, IsDone, concat_bytes, field_bytes}
use Rattle.postgres_types.specs.declared.composite.and4.And4.{And4}
use Rattle.postgres_types.specs.declared.composite.and8.And8.{And8}
use Rattle.postgres_types.specs.declared.composite.fields.And.{And}
use Rattle.postgres_types.specs.declared.composite.fields.End.{End}

-- ---- no field

-- the value of no field
abbrev pub end : End
end = record {}

abbrev pub no_fields : FieldsContent → Bool
no_fields NoFields = true
no_fields (FieldAnd name ty fs) = false

abbrev pub nothing_in : End → Unit {0}
nothing_in v = tt

-- the end of the record
abbrev pub ReadsEnd : FieldsContent → List ℕ → Outcome End → Type 0
ReadsEnd fs s = Through nothing_in (AtEnd s)

abbrev pub BackEnd : FieldsContent → End → Outcome End → Type 0
BackEnd fs v = Through nothing_in IsDone

-- ---- a field before others

-- the value of a field, followed by those of others
abbrev pub and : {A B : Type 0} → A → B → And A B
and a b = record { 0 = a; 1 = b }

-- the values of four fields, followed by those of others
abbrev pub and4 : {A B C D E : Type 0} → A → B → C → D → E → And4 A B C D E
and4 a b c d e = record { 0 = a; 1 = b; 2 = c; 3 = d; 4 = e }

-- the same, one field after another
abbrev pub in_turn4 : {A B C D E : Type 0} → And4 A B C D E → And A (And B (And C (And D E)))
in_turn4 v = and v.0 (and v.1 (and v.2 (and v.3 v.4)))

-- the values of eight fields, followed by those of others
abbrev pub and8 : {A B C D E F G H I : Type 0} → A → B → C → D → E → F → G → H → I → And8 A B C D E F G H I
and8 a b c d e f g h i = record { 0 = a; 1 = b; 2 = c; 3 = d; 4 = e; 5 = f; 6 = g; 7 = h; 8 = i }

-- the same, one field after another
abbrev pub in_turn8 : {A B C D E F G H I : Type 0} → And8 A B C D E F G H I
    → And A (And B (And C (And D (And E (And F (And G (And H I)))))))
in_turn8 v = and v.0 (and v.1 (and v.2 (and v.3 (and v.4 (and v.5 (and v.6 (and v.7 v.8)))))))

abbrev pub pair_in : {A B : Type 0} → And A B → A × B
pair_in v = (v.0, v.1)

abbrev pub SameAnd : {A B : Type 0} → (A → A → Type 0) → (B → B → Type 0) → And A B → And A B → Type 0
SameAnd same alike v w = SamePair same alike (pair_in v) (pair_in w)

-- the type of the first field is accepted, and so are those of the others
abbrev pub accepts_and : (Content → Bool) → (FieldsContent → Bool) → FieldsContent → Bool
accepts_and first others NoFields = false
accepts_and first others (FieldAnd name ty fs) = first ty && others fs

-- the first field, by its type, and then the others
abbrev pub ReadsAnd : {A B : Type 0} → (Content → Cell → Outcome A → Type 0)
    → (FieldsContent → List ℕ → Outcome B → Type 0) → FieldsContent → List ℕ → Outcome (And A B) → Type 0
ReadsAnd first others NoFields s outcome = ⊥
ReadsAnd first others (FieldAnd name ty fs) s outcome =
    Through pair_in (FieldThen (oid_of ty) (first ty) (others fs) s) outcome

-- the bytes of the first field and then those of the others
abbrev pub first_and_others : (Content → Wire) → (FieldsContent → Bytes) → FieldsContent → Bytes
first_and_others first others NoFields = Ok []
first_and_others first others (FieldAnd name ty fs) = concat_bytes (field_bytes (oid_of ty) (first ty)) (others fs)

abbrev pub bytes_and : {A B : Type 0} → (Content → A → Wire) → (FieldsContent → B → Bytes) → FieldsContent → And A B
    → Bytes
bytes_and first others fs v = first_and_others (λ ty. first ty v.0) (λ rest. others rest v.1) fs

-- what the values are read back as, or the first fault
abbrev pub BackAnd : {A B : Type 0} → (Content → A → Outcome A → Type 0) → (FieldsContent → B → Outcome B → Type 0)
    → FieldsContent → And A B → Outcome (And A B) → Type 0
BackAnd first others NoFields v outcome = ⊥
BackAnd first others (FieldAnd name ty fs) v outcome =
    Through pair_in (Both (first ty v.0) (others fs v.1)) outcome
