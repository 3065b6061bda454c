-- Composite types with a name and fields, which structs are read from and written to.
use Rattle.std.specs.Prelude.{◌==◌, ◌&&◌, ℕ, List, [], ◌∷◌, Bool, true, false}
use Rattle.std.specs.Cmp.Lexicographic.{pointwise}
use Rattle.pg_types.specs.Content.{Content, KindContent, CompositeKind, FieldsContent, NoFields, FieldAnd, kind_of}
use Rattle.pg_types.specs.Faults.{Outcome}
use Rattle.pg_base.specs.Appending.{Wire}
use Rattle.pg_base.specs.Cells.{Cell}
use Rattle.pg_base.specs.Texts.{is_named}
use Rattle.postgres_types.specs.Records.{Bytes, ReadsRecord, count_of, fields_of_kind, wire_record}

-- the kind of a composite type
abbrev pub is_composite : KindContent → Bool
is_composite (CompositeKind fs) = true
is_composite _ = false

-- the fields have these names, in this order
abbrev pub are_named : List (List ℕ) → FieldsContent → Bool
are_named [] NoFields = true
are_named (name ∷ names) (FieldAnd own ty fs) = pointwise ◌==◌ own name && are_named names fs
are_named _ _ = false

-- a composite type of this name, whose fields have these names
abbrev pub is_record : List ℕ → List (List ℕ) → Content → Bool
is_record name names ty =
    is_named name ty && (is_composite (kind_of ty) && are_named names (fields_of_kind (kind_of ty)))

-- and whose fields have these types
abbrev pub accepts_record : List ℕ → List (List ℕ) → (FieldsContent → Bool) → Content → Bool
accepts_record name names accepts ty = is_record name names ty && accepts (fields_of_kind (kind_of ty))

-- what a cell of the type reads as, by its fields; NULL gives WasNull
abbrev pub reads_record : {A : Type 0} → (FieldsContent → List ℕ → Outcome A → Type 0) → Content → Cell → Outcome A
    → Type 0
reads_record reads ty = ReadsRecord (count_of (fields_of_kind (kind_of ty))) (reads (fields_of_kind (kind_of ty)))

-- what is written for the type
abbrev pub record_cell : {A : Type 0} → (FieldsContent → A → Bytes) → Content → A → Wire
record_cell bytes ty v =
    wire_record (count_of (fields_of_kind (kind_of ty))) (bytes (fields_of_kind (kind_of ty)) v)
