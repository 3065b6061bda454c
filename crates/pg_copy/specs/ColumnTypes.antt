-- The Postgres types of columns.
use Rattle.std.specs.List.{All, AllZip}
use Rattle.std.specs.Prelude.{◌≡◌, ◌⊎◌, ⊤, ℕ, Bool, true, false, List, [], ◌∷◌, MatchOption, Option}
use Rattle.std.specs.Prelude.{Some, None, option_and_then}
use Rattle.std.specs.Str.{trim, trim_start}
use Rattle.pg_copy.specs.declared.columns.Column.{Column}
use Rattle.pg_copy.specs.declared.columns.Field.{Field}
use Rattle.pg_copy.specs.declared.columns.TypeFault.{TypeFault}
use Rattle.pg_copy.specs.declared.columns.TypeFault.TheVariants as refusal
use Rattle.pg_copy.specs.declared.types.Base.{Base}
use Rattle.pg_copy.specs.declared.types.Base.TheVariants as base
use Rattle.pg_copy.specs.TypeNames.{IsTypeText, between, type_named}
use Rattle.pg_copy.specs.Types.{types_of}
use Rattle.pg_copy.specs.Words.{after_name, pieces}
use Rattle.pg_types.specs.Content.{BuiltInType, Content, content}
use Rattle.pg_types.specs.declared.types.built_in.BuiltIn.TheVariants as row

-- the type of values, or of arrays of them, if there are any
abbrev pub type_of : Base → Bool → Option Content
type_of base false = Some (types_of base).0
type_of base true = (types_of base).1

-- the Postgres type of a field is that of its values
abbrev pub HasItsType : Field → Type 0
HasItsType field = type_of field.base field.is_array ≡ Some (content field.ty)

-- the Postgres type of a column is that of its values; a composite type, and its arrays, have that of BYTEA, and each
-- field has its own
abbrev pub IsTyped : Column → Type 0
IsTyped column =
    ((column.fields.items ≡ []) × (type_of column.base column.is_array ≡ Some (content column.ty)))
    ⊎ ((column.base ≡ base.Composite) × (content column.ty ≡ BuiltInType row.Bytea)
    × All HasItsType column.fields.items)

-- names

-- the Postgres type of the name of a type, or of arrays of it, if there is one
abbrev pub type_of_name : List ℕ → Bool → Option Content
type_of_name name is_array = option_and_then (λ base. type_of base is_array) (type_named name)

-- why a name is not taken: it has no conversion, or has no arrays; or an allocation failed
abbrev pub IsNameFault : List ℕ → Bool → TypeFault → Type 0
IsNameFault name is_array refusal.Unknown = type_of_name name is_array ≡ None
IsNameFault name is_array refusal.Nested = ⊥
IsNameFault name is_array refusal.Memory = ⊤

-- the field has the type of this name, or arrays of it
abbrev pub IsFieldNamed : List ℕ → Bool → Field → Type 0
IsFieldNamed name is_array field =
    (type_named name ≡ Some field.base) × (field.is_array ≡ is_array) × HasItsType field

-- a text is a field: its name, and then a type that is not composite
abbrev pub IsFieldOf : List ℕ → Field → Type 0
IsFieldOf text field =
    (ty : List ℕ) × (name : List ℕ) × (is_array : Bool) × (after_name (trim_start text) ≡ Some ty)
    × IsTypeText name is_array (trim ty) × (between 40 41 name ≡ None) × IsFieldNamed name is_array field

-- why the type of a field is not taken: it is composite, or its name is not taken
abbrev pub IsFieldTypeFault : Option (List ℕ) → List ℕ → Bool → TypeFault → Type 0
IsFieldTypeFault (Some fields) name is_array fault = fault ≡ refusal.Nested
IsFieldTypeFault None name is_array fault = IsNameFault name is_array fault

-- why a text is not a field: it has no name and type, or its type is not taken
abbrev pub IsFieldFault : List ℕ → TypeFault → Type 0
IsFieldFault text fault =
    MatchOption (after_name (trim_start text)) (fault ≡ refusal.Unknown)
    (λ ty. (name : List ℕ) × (is_array : Bool) × IsTypeText name is_array (trim ty)
    × IsFieldTypeFault (between 40 41 name) name is_array fault)

-- the first of these texts that is not a field has this fault; or an allocation failed
abbrev pub IsFieldsFault : List (List ℕ) → TypeFault → Type 0
IsFieldsFault [] fault = ⊥
IsFieldsFault (text ∷ texts) fault =
    (fault ≡ refusal.Memory) ⊎ IsFieldFault text fault
    ⊎ (((field : Field) × IsFieldOf text field) × IsFieldsFault texts fault)

-- columns

-- the column has this type, or arrays of it: a composite type, whose fields are given, or that of a name
abbrev pub IsColumnNamed : Option (List ℕ) → List ℕ → Bool → Column → Type 0
IsColumnNamed (Some fields) name is_array column =
    (column.base ≡ base.Composite) × (column.is_array ≡ is_array) × (content column.ty ≡ BuiltInType row.Bytea)
    × AllZip IsFieldOf (pieces fields) column.fields.items
IsColumnNamed None name is_array column =
    (type_named name ≡ Some column.base) × (column.is_array ≡ is_array)
    × (type_of column.base column.is_array ≡ Some (content column.ty)) × (column.fields.items ≡ [])

-- a text is the type of a column
abbrev pub IsColumnOf : List ℕ → Column → Type 0
IsColumnOf text column =
    (name : List ℕ) × (is_array : Bool) × IsTypeText name is_array (trim text)
    × IsColumnNamed (between 40 41 name) name is_array column

-- why a type is not taken: one of its fields is not, if it is composite, or its name is not
abbrev pub IsTypeFault : Option (List ℕ) → List ℕ → Bool → TypeFault → Type 0
IsTypeFault (Some fields) name is_array fault = IsFieldsFault (pieces fields) fault
IsTypeFault None name is_array fault = IsNameFault name is_array fault

-- why a text is not the type of a column
abbrev pub IsColumnFault : List ℕ → TypeFault → Type 0
IsColumnFault text fault =
    (name : List ℕ) × (is_array : Bool) × IsTypeText name is_array (trim text)
    × IsTypeFault (between 40 41 name) name is_array fault
