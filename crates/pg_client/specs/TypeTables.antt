-- Tables of types by OID.
use Rattle.std.specs.Prelude.{◌≡◌, ℕ}
use Rattle.std.specs.Option.{ForSome}
use Rattle.std.specs.Ordering.{nat_cmp}
use Rattle.std.specs.BTreeMap.{BTreeMap, get}
use Rattle.pg_types.specs.declared.types.PgType.{PgType}
use Rattle.pg_types.specs.Content.{content, oid_of}

-- the types that are not built in, by OID
abbrev pub Table : Type 0
Table = BTreeMap ℕ PgType

-- each type of the table has the OID that is its key
abbrev pub HasOwnOids : Table → Type 0
HasOwnOids table = (oid : ℕ) → ForSome (get nat_cmp table oid) (λ own. oid_of (content own) ≡ oid)
