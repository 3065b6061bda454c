-- The table of the built-in types, as in the system catalog pg_type.
use Rattle.std.specs.Prelude.{ℕ, List, codes, Option, Some, None}
use Prim.Native.String.{String as Literal}
use Rattle.pg_types.specs.declared.types.built_in.BuiltIn.{BuiltIn as Row}
use Rattle.pg_types.specs.declared.types.built_in.BuiltIn.TheVariants as row

-- what the catalog has for a type: its OID, its name without the schema and, for an array, its element type
pub record CatalogRow : Type 0 where
  pub oid : ℕ
  pub name : List ℕ
  pub element : Option Row

-- a type that is not an array
abbrev pub simple : ℕ → Literal → CatalogRow
simple oid name = record { oid = oid; name = codes name; element = None }

-- an array with this element type
abbrev pub array : ℕ → Literal → Row → CatalogRow
array oid name element = record { oid = oid; name = codes name; element = Some element }

-- the table, in the order of the OIDs
abbrev pub catalog : Row → CatalogRow
catalog row.Bool = simple 16 "bool"
catalog row.Bytea = simple 17 "bytea"
catalog row.Char = simple 18 "char"
catalog row.Name = simple 19 "name"
catalog row.Int8 = simple 20 "int8"
catalog row.Int2 = simple 21 "int2"
catalog row.Int2Vector = array 22 "int2vector" row.Int2
catalog row.Int4 = simple 23 "int4"
catalog row.Text = simple 25 "text"
catalog row.Oid = simple 26 "oid"
catalog row.OidVector = array 30 "oidvector" row.Oid
catalog row.Json = simple 114 "json"
catalog row.JsonArray = array 199 "_json" row.Json
catalog row.Cidr = simple 650 "cidr"
catalog row.CidrArray = array 651 "_cidr" row.Cidr
catalog row.Unknown = simple 705 "unknown"
catalog row.Macaddr = simple 829 "macaddr"
catalog row.Inet = simple 869 "inet"
catalog row.BoolArray = array 1000 "_bool" row.Bool
catalog row.ByteaArray = array 1001 "_bytea" row.Bytea
catalog row.CharArray = array 1002 "_char" row.Char
catalog row.NameArray = array 1003 "_name" row.Name
catalog row.Int2Array = array 1005 "_int2" row.Int2
catalog row.Int4Array = array 1007 "_int4" row.Int4
catalog row.TextArray = array 1009 "_text" row.Text
catalog row.BpcharArray = array 1014 "_bpchar" row.Bpchar
catalog row.VarcharArray = array 1015 "_varchar" row.Varchar
catalog row.Int8Array = array 1016 "_int8" row.Int8
catalog row.OidArray = array 1028 "_oid" row.Oid
catalog row.MacaddrArray = array 1040 "_macaddr" row.Macaddr
catalog row.InetArray = array 1041 "_inet" row.Inet
catalog row.Bpchar = simple 1042 "bpchar"
catalog row.Varchar = simple 1043 "varchar"
catalog row.Date = simple 1082 "date"
catalog row.Time = simple 1083 "time"
catalog row.Timestamp = simple 1114 "timestamp"
catalog row.TimestampArray = array 1115 "_timestamp" row.Timestamp
catalog row.DateArray = array 1182 "_date" row.Date
catalog row.TimeArray = array 1183 "_time" row.Time
catalog row.Timestamptz = simple 1184 "timestamptz"
catalog row.TimestamptzArray = array 1185 "_timestamptz" row.Timestamptz
catalog row.Interval = simple 1186 "interval"
catalog row.IntervalArray = array 1187 "_interval" row.Interval
catalog row.Bit = simple 1560 "bit"
catalog row.BitArray = array 1561 "_bit" row.Bit
catalog row.Varbit = simple 1562 "varbit"
catalog row.VarbitArray = array 1563 "_varbit" row.Varbit
catalog row.Uuid = simple 2950 "uuid"
catalog row.UuidArray = array 2951 "_uuid" row.Uuid
catalog row.PgLsn = simple 3220 "pg_lsn"
catalog row.PgLsnArray = array 3221 "_pg_lsn" row.PgLsn
catalog row.Jsonb = simple 3802 "jsonb"
catalog row.JsonbArray = array 3807 "_jsonb" row.Jsonb

-- the OID of a row
abbrev pub row_oid : Row → ℕ
row_oid r = (catalog r).oid

-- the name of a row, without its schema
abbrev pub row_name : Row → List ℕ
row_name r = (catalog r).name

-- the element type of an array type
abbrev pub row_element : Row → Option Row
row_element r = (catalog r).element
