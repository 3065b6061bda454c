-- The types of columns: their names, as PostgreSQL has them, and their Postgres types.
use Rattle.std.specs.Cmp.Lexicographic.{pointwise}
use Rattle.std.specs.List.{find, list_any}
use Rattle.std.specs.Prelude.{◌==◌, ℕ, Bool, true, false, List, [], ◌∷◌, ◌++◌, Option, Some, None, codes}
use Rattle.pg_copy.specs.declared.types.Base.{Base}
use Rattle.pg_copy.specs.declared.types.Base.TheVariants as base
use Rattle.pg_types.specs.Content.{ArrayKind, BuiltInType, Content, SimpleKind, UserDefinedType}
use Rattle.pg_types.specs.declared.types.built_in.BuiltIn.{BuiltIn}
use Rattle.pg_types.specs.declared.types.built_in.BuiltIn.TheVariants as row

-- the names of each type; the first one is that of faults and the help
abbrev pub names_of : Base → List (List ℕ)
names_of base.Bit = codes "bit" ∷ []
names_of base.Bool = codes "bool" ∷ codes "boolean" ∷ []
names_of base.Bpchar = codes "bpchar" ∷ codes "character" ∷ codes "char" ∷ []
names_of base.Bytea = codes "bytea" ∷ codes "raw" ∷ []
names_of base.Char = codes "\"char\"" ∷ []
names_of base.Cidr = codes "cidr" ∷ []
names_of base.Citext = codes "citext" ∷ []
names_of base.Composite = codes "record" ∷ []
names_of base.Date = codes "date" ∷ []
names_of base.Enum = codes "enum" ∷ []
names_of base.Float4 = codes "float4" ∷ codes "real" ∷ []
names_of base.Float8 = codes "float8" ∷ codes "double precision" ∷ []
names_of base.Hstore = codes "hstore" ∷ []
names_of base.Inet = codes "inet" ∷ []
names_of base.Int2 = codes "int2" ∷ codes "smallint" ∷ codes "smallserial" ∷ []
names_of base.Int2Vector = codes "int2vector" ∷ []
names_of base.Int4 = codes "int4" ∷ codes "integer" ∷ codes "int" ∷ codes "serial" ∷ []
names_of base.Int8 = codes "int8" ∷ codes "bigint" ∷ codes "bigserial" ∷ []
names_of base.Interval = codes "interval" ∷ []
names_of base.Json = codes "json" ∷ []
names_of base.Jsonb = codes "jsonb" ∷ []
names_of base.Lquery = codes "lquery" ∷ []
names_of base.Ltree = codes "ltree" ∷ []
names_of base.Ltxtquery = codes "ltxtquery" ∷ []
names_of base.Macaddr = codes "macaddr" ∷ []
names_of base.Macaddr8 = codes "macaddr8" ∷ []
names_of base.Name = codes "name" ∷ []
names_of base.Numeric = codes "numeric" ∷ codes "decimal" ∷ codes "dec" ∷ []
names_of base.Oid = codes "oid" ∷ []
names_of base.OidVector = codes "oidvector" ∷ []
names_of base.PgLsn = codes "pg_lsn" ∷ []
names_of base.Text = codes "text" ∷ []
names_of base.Time = codes "time" ∷ codes "time without time zone" ∷ []
names_of base.Timestamp = codes "timestamp" ∷ codes "timestamp without time zone" ∷ []
names_of base.Timestamptz = codes "timestamptz" ∷ codes "timestamp with time zone" ∷ []
names_of base.Unknown = codes "unknown" ∷ []
names_of base.Uuid = codes "uuid" ∷ []
names_of base.Varbit = codes "varbit" ∷ codes "bit varying" ∷ []
names_of base.Varchar = codes "varchar" ∷ codes "character varying" ∷ []

-- all types but composite ones, which have fields in place of a name
abbrev pub bases : List Base
bases =
    base.Bit ∷ base.Bool ∷ base.Bpchar ∷ base.Bytea ∷ base.Char ∷ base.Cidr ∷ base.Citext ∷ base.Date ∷ base.Enum
    ∷ base.Float4 ∷ base.Float8 ∷ base.Hstore ∷ base.Inet ∷ base.Int2 ∷ base.Int2Vector ∷ base.Int4 ∷ base.Int8
    ∷ base.Interval ∷ base.Json ∷ base.Jsonb ∷ base.Lquery ∷ base.Ltree ∷ base.Ltxtquery ∷ base.Macaddr
    ∷ base.Macaddr8 ∷ base.Name ∷ base.Numeric ∷ base.Oid ∷ base.OidVector ∷ base.PgLsn ∷ base.Text ∷ base.Time ∷ base.Timestamp
    ∷ base.Timestamptz ∷ base.Unknown ∷ base.Uuid ∷ base.Varbit ∷ base.Varchar ∷ []

-- whether a type has this name
abbrev pub has_name : Base → List ℕ → Bool
has_name base name = list_any (λ own. pointwise ◌==◌ name own) (names_of base)

-- the type that has this name
abbrev pub base_of : List ℕ → Option Base
base_of name = find (λ base. has_name base name) bases

-- whether a type has arrays
abbrev pub has_arrays : Base → Bool
has_arrays base.Int2Vector = false
has_arrays base.OidVector = false
has_arrays base.Unknown = false
has_arrays other = true

-- a type, and that of its arrays, if there are any
abbrev pub Types : Type 0
Types = Content × Option Content

-- a built-in type
abbrev pub built_in : BuiltIn → BuiltIn → Types
built_in own arrays = (BuiltInType own, Some (BuiltInType arrays))

-- a built-in type without arrays
abbrev pub alone : BuiltIn → Types
alone own = (BuiltInType own, None)

-- a type of a schema that is not built in: its name, its OID and that of its arrays
abbrev pub user_defined : List ℕ → List ℕ → ℕ → ℕ → Types
user_defined schema name oid array_oid =
    let own = UserDefinedType name oid SimpleKind schema in
    (own, Some (UserDefinedType (codes "_" ++ name) array_oid (ArrayKind own) schema))

-- a type of pg_catalog that is not built in
abbrev pub in_catalog : List ℕ → ℕ → ℕ → Types
in_catalog = user_defined (codes "pg_catalog")

-- a type that an extension or a user made, whose OID is unknown
abbrev pub of_user : List ℕ → Types
of_user name = user_defined (codes "public") name 0 0

-- the Postgres types of each type; a composite type has that of BYTEA, as which its cells are read and written
abbrev pub types_of : Base → Types
types_of base.Bit = built_in row.Bit row.BitArray
types_of base.Bool = built_in row.Bool row.BoolArray
types_of base.Bpchar = built_in row.Bpchar row.BpcharArray
types_of base.Bytea = built_in row.Bytea row.ByteaArray
types_of base.Char = built_in row.Char row.CharArray
types_of base.Cidr = built_in row.Cidr row.CidrArray
types_of base.Citext = of_user (codes "citext")
types_of base.Composite = alone row.Bytea
types_of base.Date = built_in row.Date row.DateArray
types_of base.Enum = of_user (codes "citext")
types_of base.Float4 = in_catalog (codes "float4") 700 1021
types_of base.Float8 = in_catalog (codes "float8") 701 1022
types_of base.Hstore = of_user (codes "hstore")
types_of base.Inet = built_in row.Inet row.InetArray
types_of base.Int2 = built_in row.Int2 row.Int2Array
types_of base.Int2Vector = alone row.Int2Vector
types_of base.Int4 = built_in row.Int4 row.Int4Array
types_of base.Int8 = built_in row.Int8 row.Int8Array
types_of base.Interval = built_in row.Interval row.IntervalArray
types_of base.Json = built_in row.Json row.JsonArray
types_of base.Jsonb = built_in row.Jsonb row.JsonbArray
types_of base.Lquery = of_user (codes "lquery")
types_of base.Ltree = of_user (codes "ltree")
types_of base.Ltxtquery = of_user (codes "ltxtquery")
types_of base.Macaddr = built_in row.Macaddr row.MacaddrArray
types_of base.Macaddr8 = in_catalog (codes "macaddr8") 774 775
types_of base.Name = built_in row.Name row.NameArray
types_of base.Numeric = in_catalog (codes "numeric") 1700 1231
types_of base.Oid = built_in row.Oid row.OidArray
types_of base.OidVector = alone row.OidVector
types_of base.PgLsn = built_in row.PgLsn row.PgLsnArray
types_of base.Text = built_in row.Text row.TextArray
types_of base.Time = built_in row.Time row.TimeArray
types_of base.Timestamp = built_in row.Timestamp row.TimestampArray
types_of base.Timestamptz = built_in row.Timestamptz row.TimestamptzArray
types_of base.Unknown = alone row.Unknown
types_of base.Uuid = built_in row.Uuid row.UuidArray
types_of base.Varbit = built_in row.Varbit row.VarbitArray
types_of base.Varchar = built_in row.Varchar row.VarcharArray
