-- What a Postgres type is: a row of the table of built-in types, or a user-defined type.
use Rattle.std.specs.Prelude.{◌≡◌, ℕ, List, [], ◌∷◌, string_bytes, map, Bool, true, false, ◌==◌, ◌&&◌, ◌||◌, ◌++◌}
use Rattle.std.specs.Prelude.{codes, if◌then◌else◌}
use Rattle.std.specs.Option.{option_map_or}
use Rattle.std.specs.Cmp.Lexicographic.{pointwise}
use Rattle.pg_types.specs.declared.types.built_in.BuiltIn.{BuiltIn as Row}
use Rattle.pg_types.specs.declared.types.PgType.{PgType}
use Rattle.pg_types.specs.declared.types.Inner.{Inner, BuiltIn, Other'}
use Rattle.pg_types.specs.declared.types.kind.Field.{Field}
use Rattle.pg_types.specs.declared.types.kind.Kind.{Kind, Simple, Enum, Pseudo, Array', Range', Multirange'}
use Rattle.pg_types.specs.declared.types.kind.Kind.{Domain', Composite', Row_of-Field, end_of-Field, more_of-Field}
use Rattle.pg_types.specs.BuiltInRows.{row_oid, row_name, row_element}

mutual
  -- what a type is: a built-in one, or one with this name, OID, kind and schema
  pub data Content : Type 0 where
    BuiltInType : Row → Content
    UserDefinedType : List ℕ → ℕ → KindContent → List ℕ → Content

  -- what a kind is
  pub data KindContent : Type 0 where
    SimpleKind : KindContent
    EnumKind : List (List ℕ) → KindContent
    PseudoKind : KindContent
    ArrayKind : Content → KindContent
    RangeKind : Content → KindContent
    MultirangeKind : Content → KindContent
    DomainKind : Content → KindContent
    CompositeKind : FieldsContent → KindContent

  -- what the fields of a composite type are, each its name and its type
  pub data FieldsContent : Type 0 where
    NoFields : FieldsContent
    FieldAnd : List ℕ → Content → FieldsContent → FieldsContent

abbrev mutual
  -- what the representation of a type stands for
  pub inner_content : Inner → Content
  inner_content (BuiltIn row) = BuiltInType row
  inner_content (Other' _ name oid kind schema) =
      UserDefinedType (string_bytes name) oid (kind_content kind) (string_bytes schema)

  -- what a kind stands for
  pub kind_content : Kind → KindContent
  kind_content Simple = SimpleKind
  kind_content (Enum labels) = EnumKind (map string_bytes labels.items)
  kind_content Pseudo = PseudoKind
  kind_content (Array' element) = ArrayKind (inner_content element)
  kind_content (Range' element) = RangeKind (inner_content element)
  kind_content (Multirange' element) = MultirangeKind (inner_content element)
  kind_content (Domain' element) = DomainKind (inner_content element)
  kind_content (Composite' _ fields) = CompositeKind (row_content fields)

  -- what the fields that a composite kind holds stand for
  pub row_content : {n : _} → Row_of-Field n → FieldsContent
  row_content end_of-Field = NoFields
  row_content (more_of-Field name type_ rest) = FieldAnd (string_bytes name) (inner_content type_) (row_content rest)

-- what a type stands for
abbrev pub content : PgType → Content
content t = inner_content t.inner

-- what a list of fields stands for
abbrev pub fields_content : List Field → FieldsContent
fields_content [] = NoFields
fields_content (f ∷ fs) = FieldAnd (string_bytes f.name) (content f.type_) (fields_content fs)

abbrev mutual
  -- whether two types are the same: built-in ones by their OIDs, and user-defined ones by their parts
  pub same_type : Content → Content → Bool
  same_type (BuiltInType a) (BuiltInType b) = row_oid a == row_oid b
  same_type (UserDefinedType name oid kind schema) (UserDefinedType name' oid' kind' schema') =
      pointwise ◌==◌ name name' && (oid == oid' && (same_kind_content kind kind' && pointwise ◌==◌ schema schema'))
  same_type _ _ = false

  -- whether two kinds are the same
  pub same_kind_content : KindContent → KindContent → Bool
  same_kind_content SimpleKind SimpleKind = true
  same_kind_content (EnumKind a) (EnumKind b) = pointwise (pointwise ◌==◌) a b
  same_kind_content PseudoKind PseudoKind = true
  same_kind_content (ArrayKind a) (ArrayKind b) = same_type a b
  same_kind_content (RangeKind a) (RangeKind b) = same_type a b
  same_kind_content (MultirangeKind a) (MultirangeKind b) = same_type a b
  same_kind_content (DomainKind a) (DomainKind b) = same_type a b
  same_kind_content (CompositeKind a) (CompositeKind b) = same_fields a b
  same_kind_content _ _ = false

  -- whether two lists of fields are the same
  pub same_fields : FieldsContent → FieldsContent → Bool
  same_fields NoFields NoFields = true
  same_fields (FieldAnd name a rest) (FieldAnd name' b rest') =
      (pointwise ◌==◌ name name' && same_type a b) && same_fields rest rest'
  same_fields _ _ = false

-- the kind of a row: an array if it has an element type, and otherwise a simple type
abbrev pub row_kind : Row → KindContent
row_kind row = option_map_or (λ element. ArrayKind (BuiltInType element)) (row_element row) SimpleKind

-- the OID of a type
abbrev pub oid_of : Content → ℕ
oid_of (BuiltInType row) = row_oid row
oid_of (UserDefinedType _ oid _ _) = oid

-- the name of a type, without its schema
abbrev pub name_of : Content → List ℕ
name_of (BuiltInType row) = row_name row
name_of (UserDefinedType name _ _ _) = name

-- the schema of a type
abbrev pub schema_of : Content → List ℕ
schema_of (BuiltInType _) = codes "pg_catalog"
schema_of (UserDefinedType _ _ _ schema) = schema

-- the kind of a type
abbrev pub kind_of : Content → KindContent
kind_of (BuiltInType row) = row_kind row
kind_of (UserDefinedType _ _ kind _) = kind

-- the type is a row of the table
abbrev pub IsBuiltIn : Content → Type 0
IsBuiltIn (BuiltInType _) = Unit {0}
IsBuiltIn (UserDefinedType _ _ _ _) = ⊥

-- the text of a type: its name, after its schema and a dot unless the schema is `public` or `pg_catalog`
abbrev pub type_text : Content → List ℕ
type_text t =
    if pointwise ◌==◌ (schema_of t) (codes "public") || pointwise ◌==◌ (schema_of t)
    (codes "pg_catalog") then name_of t else schema_of t ++ codes "." ++ name_of t

-- the name of a field
abbrev pub field_name : Field → List ℕ
field_name f = string_bytes f.name

-- the type of a field
abbrev pub field_type : Field → PgType
field_type f = f.type_

-- the second field has the same name and the same type as the first
abbrev pub SameField : Field → Field → Type 0
SameField f g = (field_name g ≡ field_name f) × (content (field_type g) ≡ content (field_type f))

-- the type is this row of the table
abbrev pub is_row : Row → Content → Bool
is_row row ty = same_type ty (BuiltInType row)
