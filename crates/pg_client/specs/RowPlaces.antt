-- Rows by their indices.
use Rattle.std.specs.Prelude.{◌≡◌, ◌≢◌, ◌<◌, ℕ, List, IsSome, Some}
use Rattle.std.specs.Option.{IsSomeAnd}
use Rattle.std.specs.List.{slice_get}
use Rattle.std.specs.Ordering.{nat_cmp}
use Rattle.std.specs.BTreeMap.{BTreeMap, get}
use Rattle.pg_client.specs.declared.catalog.TypeRow.{TypeRow}

-- no row before this index has the OID
abbrev pub IsFirst : List TypeRow → ℕ → ℕ → Type 0
IsFirst rows place oid =
    (earlier : ℕ) (row : TypeRow) → earlier < place → slice_get rows earlier ≡ Some row → row.oid ≢ oid

-- the row at this index has the OID
abbrev pub HasOid : List TypeRow → ℕ → ℕ → Type 0
HasOid rows place oid = IsSomeAnd (slice_get rows place) (λ row. row.oid ≡ oid)

-- a row has the OID
abbrev pub HasRow : List TypeRow → ℕ → Type 0
HasRow rows oid = (place : ℕ) × HasOid rows place oid

-- a row before this index has the OID
abbrev pub IsLater : List TypeRow → ℕ → ℕ → Type 0
IsLater rows place oid = (earlier : ℕ) × (earlier < place) × HasOid rows earlier oid

-- the index of the first row of each OID
abbrev pub HasFirsts : List TypeRow → BTreeMap ℕ ℕ → Type 0
HasFirsts rows firsts =
    ((oid place : ℕ) → get nat_cmp firsts oid ≡ Some place → HasOid rows place oid × IsFirst rows place oid)
    × ((place : ℕ) (row : TypeRow) → slice_get rows place ≡ Some row → IsSome (get nat_cmp firsts row.oid))
