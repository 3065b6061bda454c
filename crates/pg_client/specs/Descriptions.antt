-- What a server says of columns and parameters: RowDescription and ParameterDescription ("Message Formats" in
-- PostgreSQL's documentation).
use Rattle.std.specs.Prelude.{◌≡◌, ◌≢◌, ◌⊎◌, ◌<◌, ℕ, pos, Bool, List, [], ◌∷◌, length, Option, Some, None, Result}
use Rattle.std.specs.Prelude.{Ok, Err, IfNone, IfSome, IsTrue, Vec}
use Rattle.std.specs.Global.{Global}
use Rattle.arrayvec.specs.ArrayString.{ArrayString}
use Rattle.pg_messages.specs.Backend.{column_format, column_values, fields_at}
use Rattle.pg_messages.specs.Reading.{oid_at}
use Rattle.pg_messages.specs.declared.column.ColumnDescription.{ColumnDescription}
use Rattle.pg_types.specs.Content.{content}
use Rattle.pg_types.specs.declared.types.PgType.{PgType}
use Rattle.pg_client.specs.CatalogTypes.{IsTypeOf, IsUnknown}
use Rattle.pg_client.specs.TypeTables.{Table}
use Rattle.pg_client.specs.declared.column.Column.{Column}
use Rattle.pg_client.specs.declared.described.DescriptionFault.{DescriptionFault}
use Rattle.pg_client.specs.declared.described.DescriptionFault.TheVariants.{Memory, Damaged, Unknown, TextFormat}
use Rattle.pg_client.specs.declared.described.RefusedDescription.{RefusedDescription}
use Rattle.pg_client.specs.declared.placed_fault.Place.TheVariants as place

-- items one after another at the front of bytes, and the bytes after them; `At` says where one ends
abbrev pub InTurn : {A : Type 0} → (A → List ℕ → List ℕ → Type 0) → List A → List ℕ → List ℕ → Type 0
InTurn At [] s rest = s ≡ rest
InTurn At (x ∷ xs) s rest = (next : List ℕ) × At x s next × InTurn At xs next rest

-- so many items were read, and no bytes are left; or this is why the next one is refused; or bytes are left
abbrev pub ReadsInTurn : {A : Type 0} → (A → List ℕ → List ℕ → Type 0) → (ℕ → List ℕ → RefusedDescription → Type 0)
    → RefusedDescription → ℕ → List ℕ → Result (Vec A Global) RefusedDescription → Type 0
ReadsInTurn At IsWhy trailing count s (Ok xs) = (length xs.items ≡ count) × InTurn At xs.items s []
ReadsInTurn At IsWhy trailing count s (Err f) =
    (f.fault ≡ Memory)
    ⊎ ((before : _) × (rest : List ℕ) × InTurn At before s rest
    × (((length before < count) × IsWhy (length before) rest f)
    ⊎ ((length before ≡ count) × (rest ≢ []) × (f ≡ trailing))))

-- the fault says why there is no type with an OID
abbrev pub IsWhyUntyped : Table → ℕ → DescriptionFault → Type 0
IsWhyUntyped table oid Memory = Unit {0}
IsWhyUntyped table oid (Unknown other) = (other ≡ oid) × IsUnknown table oid
IsWhyUntyped table oid _ = ⊥

-- the description of a column is at the front of bytes
abbrev pub Describes : ColumnDescription → List ℕ → List ℕ → Type 0
Describes d s rest = fields_at column_format s ≡ Some (column_values d, rest)

-- its name, if a column can have that
abbrev pub IsNamed : ColumnDescription → Option ArrayString → Type 0
IsNamed d name = IfSome name (λ own. own.bytes ≡ d.name.now) × IfNone name (63 < length d.name.now)

-- the column of a description; its format is binary, if formats are told
abbrev pub IsColumn : Bool → Table → Column → List ℕ → List ℕ → Type 0
IsColumn formats table column s rest =
    (d : ColumnDescription)
    × Describes d s rest
    × IsNamed d column.name
    × IsTypeOf table d.ty (content column.ty)
    × (IsTrue formats → d.format ≡ pos 1)

-- the fault says why a column is not read: its format is that of texts, or there is no type with its OID
abbrev pub IsWhyUnread : Bool → Table → ColumnDescription → DescriptionFault → Type 0
IsWhyUnread formats table d TextFormat = IsTrue formats × (d.format ≢ pos 1)
IsWhyUnread formats table d fault = IsWhyUntyped table d.ty fault

-- why there is no column at the front of bytes: there is no description, or it is refused
abbrev pub IsWhyNoColumn : Bool → Table → ℕ → List ℕ → RefusedDescription → Type 0
IsWhyNoColumn formats table n s f =
    ((fields_at column_format s ≡ None) × (f ≡ record { place = place.Column n None; fault = Damaged }))
    ⊎ ((d : ColumnDescription) × (rest : List ℕ) × (name : Option ArrayString) × Describes d s rest × IsNamed d name
    × (f.place ≡ place.Column n name) × IsWhyUnread formats table d f.fault)

-- the columns of a RowDescription
abbrev pub DescribesColumns : Bool → Table → ℕ → List ℕ → Result (Vec Column Global) RefusedDescription → Type 0
DescribesColumns formats table =
    ReadsInTurn (IsColumn formats table) (IsWhyNoColumn formats table)
    (record { place = place.Row; fault = Damaged })

-- the type of a parameter, whose OID is at the front of bytes
abbrev pub IsType : Table → PgType → List ℕ → List ℕ → Type 0
IsType table ty s rest = (oid : ℕ) × (oid_at s ≡ Some (oid, rest)) × IsTypeOf table oid (content ty)

-- why there is none: there is no OID, or no type that has it
abbrev pub IsWhyNoType : Table → ℕ → List ℕ → RefusedDescription → Type 0
IsWhyNoType table n s f =
    ((oid_at s ≡ None) × (f ≡ record { place = place.Parameter n; fault = Damaged }))
    ⊎ ((oid : ℕ) × (rest : List ℕ) × (oid_at s ≡ Some (oid, rest)) × (f.place ≡ place.Parameter n)
    × IsWhyUntyped table oid f.fault)

-- the types of a ParameterDescription
abbrev pub DescribesTypes : Table → ℕ → List ℕ → Result (Vec PgType Global) RefusedDescription → Type 0
DescribesTypes table =
    ReadsInTurn (IsType table) (IsWhyNoType table) (record { place = place.Bind; fault = Damaged })
