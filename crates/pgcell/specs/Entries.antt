-- What each base name stands for.
use Rattle.std.specs.Prelude.{ℕ, Bool, true, false, List, Option, Some, None, ◌&&◌, codes, map, String, Vec}
use Rattle.postgres_types.specs.Content.{Content, ArrayKind, BuiltInType, SimpleKind, kind_of, same_type}
use Rattle.std.specs.Int.{w8, w16, w32, w64}
use Rattle.std.specs.Global.{Global}
use Rattle.std.specs.HashMap.{HashMap}
use Rattle.std.specs.declared.hash.BuildHasherDefault.{BuildHasherDefault}
use Rattle.std.specs.declared.hash.FoldHasher.{FoldHasher}
use Rattle.postgres_types.specs.Bits.{ReadsBits, wire_bits}
use Rattle.postgres_types.specs.Bytea.{ReadsBytes, wire_bytes}
use Rattle.postgres_types.specs.Civil.{ReadsDate, ReadsDateTime, ReadsInstant, ReadsTime, wire_date, wire_datetime}
use Rattle.postgres_types.specs.Civil.{wire_instant, wire_time}
use Rattle.postgres_types.specs.Hstore.{ReadsHstore, owned_entry, wire_hstore}
use Rattle.postgres_types.specs.Interval.{ReadsInterval, wire_interval}
use Rattle.postgres_types.specs.FixedBytes.{ReadsFixedBytes, wire_fixed_bytes}
use Rattle.postgres_types.specs.Timestamps.{ReadsTimestamp, nanos_of, wire_timestamp}
use Rattle.postgres_types.specs.Network.{ReadsAddress, ReadsCidr, ReadsInet, wire_address, wire_cidr, wire_inet}
use Rattle.postgres_types.specs.Numbers.{ReadsBool, ReadsSigned, ReadsUnsigned, wire_bool, wire_signed, wire_unsigned}
use Rattle.postgres_types.specs.Special.{ReadsSpecial, date_view, timestamp_view, wire_special}
use Rattle.pg_types.specs.declared.types.built_in.BuiltIn.{BuiltIn as Row}
use Rattle.pg_types.specs.declared.types.built_in.BuiltIn.TheVariants as row
use Rattle.postgres_types.specs.Records.{fields_of_kind}
use Rattle.pg_numbers.specs.CatalogTypes.{catalog_type}
use Rattle.pg_numbers.specs.NumericCells.{ReadsNumeric, wire_numeric}
use Rattle.pg_record.specs.InventoryItems.{reads_item, wire_item}
use Rattle.pg_record.specs.Moods.{ReadsMood, wire_mood}
use Rattle.pg_record.specs.SessionIds.{ReadsSessionId, wire_session_id}
use Rattle.pg_record.specs.Types.{item_array_type, item_type, mood_type, session_id_type, simple_type}
use Rattle.pgcell.specs.Rewritten.{ReadsVec, wire_vec, Rewriting, RewrittenAs, RewrittenPlain, RewrittenText}
use Rattle.named_types.specs.declared.base.Base.{Base}
use Rattle.named_types.specs.declared.base.Base.TheVariants as base

-- a type and, if it has arrays, their type
abbrev pub Types : Type 0
Types = Content × Option Content

-- a type of the schema pg_catalog, and that of its arrays
abbrev pub catalog_types : List ℕ → ℕ → List ℕ → ℕ → Types
catalog_types name oid array_name array_oid =
    let own = catalog_type name oid SimpleKind in
    (own, Some (catalog_type array_name array_oid (ArrayKind own)))

-- a built-in type and that of its arrays
abbrev pub built_in : Row → Row → Types
built_in own arrays = (BuiltInType own, Some (BuiltInType arrays))

-- a built-in type without arrays
abbrev pub no_arrays : Row → Types
no_arrays own = (BuiltInType own, None)

-- the types of a base name; a user-defined one has an OID that a server could have given it, or has for it
abbrev pub types_of : Base → Types
types_of base.Addr = built_in row.Inet row.InetArray
types_of base.Bit = built_in row.Bit row.BitArray
types_of base.Bool = built_in row.Bool row.BoolArray
types_of base.Bpchar = built_in row.Bpchar row.BpcharArray
types_of base.Bytea = built_in row.Bytea row.ByteaArray
types_of base.Char = built_in row.Char row.CharArray
types_of base.Cidr = built_in row.Cidr row.CidrArray
types_of base.Date = built_in row.Date row.DateArray
types_of base.DateInf = built_in row.Date row.DateArray
types_of base.Float4 = catalog_types (codes "float4") 700 (codes "_float4") 1021
types_of base.Float8 = catalog_types (codes "float8") 701 (codes "_float8") 1022
types_of base.Hstore = (simple_type (codes "hstore") 100002, None)
types_of base.Inet = built_in row.Inet row.InetArray
types_of base.Int2 = built_in row.Int2 row.Int2Array
types_of base.Int2Vector = no_arrays row.Int2Vector
types_of base.Int4 = built_in row.Int4 row.Int4Array
types_of base.Int8 = built_in row.Int8 row.Int8Array
types_of base.Interval = built_in row.Interval row.IntervalArray
types_of base.Item = (item_type 100003, Some (item_array_type 100004 (item_type 100003)))
types_of base.Ltree = (simple_type (codes "ltree") 100001, None)
types_of base.Macaddr = built_in row.Macaddr row.MacaddrArray
types_of base.Mood = (mood_type 100005, None)
types_of base.Name = built_in row.Name row.NameArray
types_of base.Numeric = catalog_types (codes "numeric") 1700 (codes "_numeric") 1231
types_of base.Oid = built_in row.Oid row.OidArray
types_of base.OidVector = no_arrays row.OidVector
types_of base.PgLsn = built_in row.PgLsn row.PgLsnArray
types_of base.Session = (session_id_type 100006, None)
types_of base.Text = built_in row.Text row.TextArray
types_of base.Time = built_in row.Time row.TimeArray
types_of base.Timestamp = built_in row.Timestamp row.TimestampArray
types_of base.TimestampInf = built_in row.Timestamp row.TimestampArray
types_of base.Timestamptz = built_in row.Timestamptz row.TimestamptzArray
types_of base.Unix = built_in row.Timestamp row.TimestampArray
types_of base.UnixInf = built_in row.Timestamp row.TimestampArray
types_of base.Unknown = no_arrays row.Unknown
types_of base.Uuid = built_in row.Uuid row.UuidArray
types_of base.Varbit = built_in row.Varbit row.VarbitArray
types_of base.Varchar = built_in row.Varchar row.VarcharArray

-- the types of a base name, if they are user-defined
abbrev pub user_types : Base → Option Types
user_types base.Float4 = Some (types_of base.Float4)
user_types base.Float8 = Some (types_of base.Float8)
user_types base.Hstore = Some (types_of base.Hstore)
user_types base.Item = Some (types_of base.Item)
user_types base.Ltree = Some (types_of base.Ltree)
user_types base.Mood = Some (types_of base.Mood)
user_types base.Numeric = Some (types_of base.Numeric)
user_types base.Session = Some (types_of base.Session)
user_types other = None

-- whether two types of arrays, if there are any, are the same
abbrev pub same_arrays : Option Content → Option Content → Bool
same_arrays None None = true
same_arrays (Some one) (Some other) = same_type one other
same_arrays _ _ = false

-- whether there are types, and they are these
unfoldable pub are_types : Option Types → Content → Option Content → Bool
are_types None own arrays = false
are_types (Some types) own arrays = same_type own types.0 && same_arrays arrays types.1

-- a map of texts
abbrev pub Map : Type 0
Map = HashMap (String Global) (Option (String Global)) (BuildHasherDefault FoldHasher)

-- an item is rewritten by the fields of the type
abbrev pub RewrittenItem : Rewriting
RewrittenItem =
    RewrittenAs (λ ty. reads_item (fields_of_kind (kind_of ty))) (λ ty. wire_item (fields_of_kind (kind_of ty)))

-- how a cell is rewritten by a base name
abbrev pub rewriting_of : Base → Rewriting
rewriting_of base.Addr = RewrittenPlain ReadsAddress wire_address
rewriting_of base.Bit = RewrittenPlain (ReadsBits (λ v. v)) wire_bits
rewriting_of base.Bool = RewrittenPlain ReadsBool wire_bool
rewriting_of base.Bpchar = RewrittenText
rewriting_of base.Bytea = RewrittenPlain {A = Vec ℕ Global} (ReadsBytes (λ v. v.items)) (λ v. wire_bytes v.items)
rewriting_of base.Char = RewrittenPlain (ReadsSigned w8) (wire_signed w8)
rewriting_of base.Cidr = RewrittenPlain ReadsCidr wire_cidr
rewriting_of base.Date = RewrittenPlain ReadsDate wire_date
rewriting_of base.DateInf = RewrittenPlain (ReadsSpecial w32 date_view ReadsDate) (λ v. wire_special w32 wire_date (date_view v))
rewriting_of base.Float4 = RewrittenPlain (ReadsUnsigned w32) (wire_unsigned w32)
rewriting_of base.Float8 = RewrittenPlain (ReadsUnsigned w64) (wire_unsigned w64)
rewriting_of base.Hstore = RewrittenPlain {A = Map} ReadsHstore (λ m. wire_hstore (map owned_entry m.entries))
rewriting_of base.Inet = RewrittenPlain ReadsInet wire_inet
rewriting_of base.Int2 = RewrittenPlain (ReadsSigned w16) (wire_signed w16)
rewriting_of base.Int2Vector = RewrittenAs (ReadsVec (λ _. ReadsSigned w16)) (wire_vec (λ _. wire_signed w16))
rewriting_of base.Int4 = RewrittenPlain (ReadsSigned w32) (wire_signed w32)
rewriting_of base.Int8 = RewrittenPlain (ReadsSigned w64) (wire_signed w64)
rewriting_of base.Interval = RewrittenPlain ReadsInterval wire_interval
rewriting_of base.Item = RewrittenItem
rewriting_of base.Ltree = RewrittenText
rewriting_of base.Macaddr = RewrittenPlain (ReadsFixedBytes 6) (wire_fixed_bytes 6)
rewriting_of base.Mood = RewrittenPlain ReadsMood wire_mood
rewriting_of base.Name = RewrittenText
rewriting_of base.Numeric = RewrittenPlain ReadsNumeric wire_numeric
rewriting_of base.Oid = RewrittenPlain (ReadsUnsigned w32) (wire_unsigned w32)
rewriting_of base.OidVector = RewrittenAs (ReadsVec (λ _. ReadsUnsigned w32)) (wire_vec (λ _. wire_unsigned w32))
rewriting_of base.PgLsn = RewrittenPlain (ReadsUnsigned w64) (wire_unsigned w64)
rewriting_of base.Session = RewrittenPlain ReadsSessionId wire_session_id
rewriting_of base.Text = RewrittenText
rewriting_of base.Time = RewrittenPlain ReadsTime wire_time
rewriting_of base.Timestamp = RewrittenPlain ReadsDateTime wire_datetime
rewriting_of base.TimestampInf =
    RewrittenPlain (ReadsSpecial w64 timestamp_view ReadsDateTime) (λ v. wire_special w64 wire_datetime (timestamp_view v))
rewriting_of base.Timestamptz = RewrittenPlain ReadsInstant wire_instant
rewriting_of base.Unix = RewrittenPlain (ReadsTimestamp nanos_of) (λ v. wire_timestamp (nanos_of v))
rewriting_of base.UnixInf =
    RewrittenPlain (ReadsSpecial w64 timestamp_view (ReadsTimestamp nanos_of)) (λ v. wire_special w64 (λ u. wire_timestamp (nanos_of u)) (timestamp_view v))
rewriting_of base.Unknown = RewrittenText
rewriting_of base.Uuid = RewrittenPlain (ReadsFixedBytes 16) (wire_fixed_bytes 16)
rewriting_of base.Varbit = RewrittenPlain (ReadsBits (λ v. v)) wire_bits
rewriting_of base.Varchar = RewrittenText
