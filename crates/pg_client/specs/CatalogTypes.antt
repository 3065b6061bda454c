-- The types of a catalog, and what its rows describe.
use Rattle.std.specs.Int.{cast_signed, w8}
use Rattle.std.specs.Prelude.{◌≡◌, ◌≢◌, ℕ, List, codes, map, length, None, Some, IsSome}
use Rattle.std.specs.Option.{IsSomeAnd, MatchOption}
use Rattle.std.specs.List.{AllZip, Contains, zip}
use Rattle.std.specs.Ordering.{nat_cmp}
use Rattle.std.specs.BTreeMap.{get}
use mathlib.Core.Logic.{◌⊎◌}
use denote.Ref.{Bor}
use Rattle.pg_types.specs.declared.types.PgType.{PgType}
use Rattle.pg_types.specs.declared.types.kind.Field.{Field}
use Rattle.pg_types.specs.BuiltInRows.{row_oid}
use Rattle.pg_types.specs.Content.{Content, IsBuiltIn, KindContent, SimpleKind, EnumKind, PseudoKind, ArrayKind}
use Rattle.pg_types.specs.Content.{RangeKind, MultirangeKind, DomainKind, CompositeKind, content, fields_content}
use Rattle.pg_types.specs.Content.{field_name, field_type, oid_of, name_of, schema_of, kind_of}
use Rattle.pg_client.specs.CatalogRows.{kind_of_letter}
use Rattle.pg_client.specs.TypeTables.{Table}
use Rattle.pg_client.specs.declared.catalog.Catalog.{Catalog}
use Rattle.pg_client.specs.declared.catalog.TypeRow.{TypeRow}
use Rattle.pg_client.specs.declared.catalog.refused.RefusedType.{RefusedType}
use Rattle.pg_client.specs.declared.catalog.refused.TypeFault.{TypeFault}
use Rattle.pg_client.specs.declared.catalog.refused.TypeFault.TheVariants.{Memory, Kind, Unknown, Fields}
use Rattle.pg_client.specs.declared.catalog.refused.TypeFault.TheVariants.{Duplicate}
use Rattle.pg_client.specs.declared.catalog.kinds.TypeKind.{TypeKind}
use Rattle.pg_client.specs.declared.catalog.kinds.TypeKind.TheVariants.{Base, Enum, Pseudo, Array, Range, Multirange}
use Rattle.pg_client.specs.declared.catalog.kinds.TypeKind.TheVariants.{Domain, Composite}

-- the types of a catalog that are not built in, by OID
abbrev pub table_of : Catalog → Table
table_of catalog = catalog.types

-- the rows that made no type
abbrev pub refused_of : Catalog → List RefusedType
refused_of catalog = catalog.refused.items

-- a type of the schema pg_catalog: its OID, its name, the letter of its kind, and the OID of its element type
abbrev pub Listed : Type 0
Listed = ℕ × Bor (List ℕ) × ℕ × ℕ

-- the row of such a type
abbrev pub IsRowOf : Listed → TypeRow → Type 0
IsRowOf (oid, name, kind, element) row =
    (row.oid ≡ oid) × (row.name.now ≡ name.now) × (row.schema.now ≡ codes "pg_catalog")
    × (row.kind ≡ cast_signed w8 kind) × (row.element ≡ element)

-- the rows of such types
abbrev pub AreListed : List TypeRow → Type 0
AreListed rows = (types : List Listed) × AllZip IsRowOf types rows

-- no built-in type has this OID
abbrev pub NotBuiltIn : ℕ → Type 0
NotBuiltIn oid = (row : _) → row_oid row ≢ oid

-- this is the type with an OID: the built-in one that has it or, if none has, that of the table
abbrev pub IsTypeOf : Table → ℕ → Content → Type 0
IsTypeOf table oid ty =
    (IsBuiltIn ty × (oid_of ty ≡ oid)) ⊎
    (NotBuiltIn oid × IsSomeAnd (get nat_cmp table oid) (λ own. content own ≡ ty))

-- no type has this OID
abbrev pub IsUnknown : Table → ℕ → Type 0
IsUnknown table oid = NotBuiltIn oid × (get nat_cmp table oid ≡ None)

-- the kind contains the type with this OID
abbrev pub Holds : (Content → KindContent) → Table → ℕ → KindContent → Type 0
Holds of_part table oid kind = (part : Content) × IsTypeOf table oid part × (kind ≡ of_part part)

-- a field with this name and the type with this OID
abbrev pub IsField : Table → List ℕ → ℕ → Field → Type 0
IsField table name oid field = (field_name field ≡ name) × IsTypeOf table oid (content (field_type field))

-- the fields with these names and the types with these OIDs, in the same number
abbrev pub AreFields : Table → List (Bor (List ℕ)) → List ℕ → List Field → Type 0
AreFields table names oids fields = (length oids ≡ length names)
    × AllZip (λ column field. IsField table column.0.now column.1 field) (zip names oids) fields

-- the kind that a row with this letter describes
abbrev pub IsKind : Table → TypeRow → TypeKind → KindContent → Type 0
IsKind table row Base kind = kind ≡ SimpleKind
IsKind table row Enum kind = kind ≡ EnumKind (map (λ label. label.now) row.labels.items)
IsKind table row Pseudo kind = kind ≡ PseudoKind
IsKind table row Array kind = Holds ArrayKind table row.element kind
IsKind table row Range kind = Holds RangeKind table row.element kind
IsKind table row Multirange kind = Holds MultirangeKind table row.element kind
IsKind table row Domain kind = Holds DomainKind table row.base kind
IsKind table row Composite kind = (fields : List Field)
    × AreFields table row.field_names.items row.field_types.items fields
    × (kind ≡ CompositeKind (fields_content fields))

-- the kind that a row describes
abbrev pub IsKindOf : Table → TypeRow → KindContent → Type 0
IsKindOf table row kind = IsSomeAnd (kind_of_letter row.kind) (λ letter. IsKind table row letter kind)

-- the type that a row describes, whose parts are in the table
abbrev pub Describes : Table → TypeRow → Content → Type 0
Describes table row ty =
    (oid_of ty ≡ row.oid) × (name_of ty ≡ row.name.now) × (schema_of ty ≡ row.schema.now)
    × IsKindOf table row (kind_of ty)

-- the second table has the type of the row besides those of the first
abbrev pub Adds : Table → TypeRow → Table → Type 0
Adds table row after =
    (get nat_cmp table row.oid ≡ None)
    × IsSomeAnd (get nat_cmp after row.oid) (λ own. Describes table row (content own))
    × ((oid : ℕ) → oid ≢ row.oid → get nat_cmp after oid ≡ get nat_cmp table oid)

-- the fault says why an OID is not that of a part
abbrev pub IsWhyNoPart : Table → ℕ → TypeFault → Type 0
IsWhyNoPart table oid Memory = Unit {0}
IsWhyNoPart table oid (Unknown other) = (other ≡ oid) × IsUnknown table oid
IsWhyNoPart table oid _ = ⊥

-- the fault says why there are no such fields
abbrev pub IsWhyNoFields : Table → List (Bor (List ℕ)) → List ℕ → TypeFault → Type 0
IsWhyNoFields table names oids Memory = Unit {0}
IsWhyNoFields table names oids (Unknown oid) = Contains oids oid × IsUnknown table oid
IsWhyNoFields table names oids Fields = length oids ≢ length names
IsWhyNoFields table names oids _ = ⊥

-- the fault says why a row of this kind makes no type
abbrev pub IsWhyNoKind : Table → TypeRow → TypeKind → TypeFault → Type 0
IsWhyNoKind table row Base fault = fault ≡ Memory
IsWhyNoKind table row Enum fault = fault ≡ Memory
IsWhyNoKind table row Pseudo fault = fault ≡ Memory
IsWhyNoKind table row Array fault = IsWhyNoPart table row.element fault
IsWhyNoKind table row Range fault = IsWhyNoPart table row.element fault
IsWhyNoKind table row Multirange fault = IsWhyNoPart table row.element fault
IsWhyNoKind table row Domain fault = IsWhyNoPart table row.base fault
IsWhyNoKind table row Composite fault = IsWhyNoFields table row.field_names.items row.field_types.items fault

-- the fault says why a row describes no kind: its letter is unknown, or a part of it is
abbrev pub IsWhy : Table → TypeRow → TypeFault → Type 0
IsWhy table row fault =
    MatchOption (kind_of_letter row.kind) (fault ≡ Kind row.kind) (λ letter. IsWhyNoKind table row letter fault)

-- the second table has the type of the row besides those of the first, or the same where a built-in type has its OID
abbrev pub AddsOrHas : Table → TypeRow → Table → Type 0
AddsOrHas table row after =
    (((built_in : _) × (row_oid built_in ≡ row.oid)) × (after.entries ≡ table.entries)) ⊎
    (NotBuiltIn row.oid × Adds table row after)

-- the fault says why the type of a row is not added: there is one with its OID, or the row describes no kind
abbrev pub IsWhyNotAdded : Table → TypeRow → TypeFault → Type 0
IsWhyNotAdded table row Memory = Unit {0}
IsWhyNotAdded table row Duplicate = IsSome (get nat_cmp table row.oid)
IsWhyNotAdded table row fault = IsWhy table row fault

-- the second table has this type besides those of the first
abbrev pub Inserts : Table → PgType → Table → Type 0
Inserts table ty after =
    IsUnknown table (oid_of (content ty))
    × (get nat_cmp after (oid_of (content ty)) ≡ Some ty)
    × ((oid : ℕ) → oid ≢ oid_of (content ty) → get nat_cmp after oid ≡ get nat_cmp table oid)

-- the fault says why a type with this OID is not inserted: there is one
abbrev pub IsWhyNotInserted : Table → ℕ → TypeFault → Type 0
IsWhyNotInserted table oid Memory = Unit {0}
IsWhyNotInserted table oid Duplicate = IsUnknown table oid → ⊥
IsWhyNotInserted table oid _ = ⊥
