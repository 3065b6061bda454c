-- The base names.
use Rattle.std.specs.Prelude.{ℕ, ◌==◌, Bool, true, false, List, [], ◌∷◌, Option, Some, None, codes, cond}
use Rattle.std.specs.Cmp.Lexicographic.{pointwise}
use Rattle.named_types.specs.declared.base.Base.{Base}
use Rattle.named_types.specs.declared.base.Base.TheVariants as base

-- the name of each base name
abbrev pub base_name : Base → List ℕ
base_name base.Addr = codes "addr"
base_name base.Bit = codes "bit"
base_name base.Bool = codes "bool"
base_name base.Bpchar = codes "bpchar"
base_name base.Bytea = codes "bytea"
base_name base.Char = codes "char"
base_name base.Cidr = codes "cidr"
base_name base.Date = codes "date"
base_name base.DateInf = codes "date_inf"
base_name base.Float4 = codes "float4"
base_name base.Float8 = codes "float8"
base_name base.Hstore = codes "hstore"
base_name base.Inet = codes "inet"
base_name base.Int2 = codes "int2"
base_name base.Int2Vector = codes "int2vector"
base_name base.Int4 = codes "int4"
base_name base.Int8 = codes "int8"
base_name base.Interval = codes "interval"
base_name base.Item = codes "item"
base_name base.Ltree = codes "ltree"
base_name base.Macaddr = codes "macaddr"
base_name base.Mood = codes "mood"
base_name base.Name = codes "name"
base_name base.Numeric = codes "numeric"
base_name base.Oid = codes "oid"
base_name base.OidVector = codes "oidvector"
base_name base.PgLsn = codes "pg_lsn"
base_name base.Session = codes "session"
base_name base.Text = codes "text"
base_name base.Time = codes "time"
base_name base.Timestamp = codes "timestamp"
base_name base.TimestampInf = codes "timestamp_inf"
base_name base.Timestamptz = codes "timestamptz"
base_name base.Unix = codes "unix"
base_name base.UnixInf = codes "unix_inf"
base_name base.Unknown = codes "unknown"
base_name base.Uuid = codes "uuid"
base_name base.Varbit = codes "varbit"
base_name base.Varchar = codes "varchar"

-- all base names
abbrev pub bases : List Base
bases = base.Addr ∷ base.Bit ∷ base.Bool ∷ base.Bpchar ∷ base.Bytea ∷ base.Char ∷ base.Cidr ∷ base.Date ∷ base.DateInf ∷ base.Float4 ∷ base.Float8 ∷ base.Hstore ∷ base.Inet ∷ base.Int2 ∷ base.Int2Vector ∷ base.Int4 ∷ base.Int8 ∷ base.Interval ∷ base.Item ∷ base.Ltree ∷ base.Macaddr ∷ base.Mood ∷ base.Name ∷ base.Numeric ∷ base.Oid ∷ base.OidVector ∷ base.PgLsn ∷ base.Session ∷ base.Text ∷ base.Time ∷ base.Timestamp ∷ base.TimestampInf ∷ base.Timestamptz ∷ base.Unix ∷ base.UnixInf ∷ base.Unknown ∷ base.Uuid ∷ base.Varbit ∷ base.Varchar ∷ []

-- the first of these base names that has this name
abbrev pub named : List Base → List ℕ → Option Base
named [] name = None
named (first ∷ others) name = cond (pointwise ◌==◌ name (base_name first)) (Some first) (named others name)

-- the base name that has this name
abbrev pub base_of : List ℕ → Option Base
base_of = named bases

-- whether a base name has arrays
abbrev pub has_arrays : Base → Bool
has_arrays base.Hstore = false
has_arrays base.Int2Vector = false
has_arrays base.Ltree = false
has_arrays base.Mood = false
has_arrays base.OidVector = false
has_arrays base.Session = false
has_arrays base.Unknown = false
has_arrays other = true
