-- Types of a user's own, in the schema public.
use Rattle.std.specs.Prelude.{ℕ, List, [], ◌∷◌, codes}
use Rattle.postgres_types.specs.Content.{Content, BuiltInType, UserDefinedType, KindContent, SimpleKind, EnumKind}
use Rattle.postgres_types.specs.Content.{ArrayKind, CompositeKind, DomainKind, FieldAnd, NoFields}
use Rattle.pg_types.specs.declared.types.built_in.BuiltIn.TheVariants.{Bytea as ByteaRow, Int4 as Int4Row}
use Rattle.pg_types.specs.declared.types.built_in.BuiltIn.TheVariants.{Int8 as Int8Row, Text as TextRow}

-- a type of this name, OID and kind
abbrev pub user_type : List ℕ → ℕ → KindContent → Content
user_type name oid kind = UserDefinedType name oid kind (codes "public")

-- a type of this name and OID, of kind Simple
abbrev pub simple_type : List ℕ → ℕ → Content
simple_type name oid = user_type name oid SimpleKind

-- the composite type InventoryItem, with fields of TEXT, INT4 and INT8
abbrev pub item_type : ℕ → Content
item_type oid =
    user_type (codes "InventoryItem") oid (CompositeKind (FieldAnd (codes "name") (BuiltInType TextRow)
    (FieldAnd (codes "supplier_id") (BuiltInType Int4Row) (FieldAnd (codes "price") (BuiltInType Int8Row) NoFields))))

-- the type of its arrays
abbrev pub item_array_type : ℕ → Content → Content
item_array_type oid item = user_type (codes "_InventoryItem") oid (ArrayKind item)

-- the enumerated type Mood
abbrev pub mood_type : ℕ → Content
mood_type oid = user_type (codes "Mood") oid (EnumKind (codes "Sad" ∷ codes "Ok" ∷ codes "Happy" ∷ []))

-- the domain SessionId over BYTEA
abbrev pub session_id_type : ℕ → Content
session_id_type oid = user_type (codes "SessionId") oid (DomainKind (BuiltInType ByteaRow))
