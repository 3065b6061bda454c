-- What a catalog has of the rows from which it was made.
use Rattle.std.specs.Prelude.{◌≡◌, ◌<◌, ℕ, List, map, Some, IsSome, string_bytes}
use Rattle.std.specs.Option.{ForSome, IsSomeAnd}
use Rattle.std.specs.List.{All, AllPairs, AllZip, Contains, slice_get}
use Rattle.std.specs.Ordering.{nat_cmp}
use Rattle.std.specs.BTreeMap.{get}
use mathlib.Core.Logic.{◌⊎◌}
use Rattle.pg_types.specs.declared.types.PgType.{PgType}
use Rattle.pg_types.specs.BuiltInRows.{row_oid}
use Rattle.pg_types.specs.Content.{Content, content}
use Rattle.pg_client.specs.TypeTables.{Table}
use Rattle.pg_client.specs.CatalogTypes.{Describes, IsWhyNotAdded, NotBuiltIn}
use Rattle.pg_client.specs.RowPlaces.{HasRow, IsFirst, IsLater}
use Rattle.pg_client.specs.declared.catalog.left.Left.{Left}
use Rattle.pg_client.specs.declared.catalog.TypeRow.{TypeRow}
use Rattle.pg_client.specs.declared.catalog.refused.RefusedType.{RefusedType}
use Rattle.pg_client.specs.declared.catalog.refused.TypeFault.{TypeFault}
use Rattle.pg_client.specs.declared.catalog.refused.TypeFault.TheVariants.{Memory, Unknown, Recursive, Duplicate}

-- a row that is the first one of its OID describes the type, whose parts are in the table
abbrev pub IsDescribed : Table → List TypeRow → Content → Type 0
IsDescribed table rows ty =
    (place : ℕ) × IsSomeAnd (slice_get rows place) (λ row. Describes table row ty × IsFirst rows place row.oid)

-- each type of the table is the one that such a row describes
abbrev pub AreDescribed : Table → List TypeRow → Type 0
AreDescribed table rows =
    (oid : ℕ) (own : PgType) → get nat_cmp table oid ≡ Some own → IsDescribed table rows (content own)

-- an OID has a type: a built-in one or one of the table
abbrev pub HasType : Table → ℕ → Type 0
HasType table oid = ((built_in : _) × (row_oid built_in ≡ oid)) ⊎ IsSome (get nat_cmp table oid)

-- the row at this index is the first one of its OID, which has a type
abbrev pub IsMade : Table → List TypeRow → ℕ → TypeRow → Type 0
IsMade table rows place row = IsFirst rows place row.oid × HasType table row.oid

-- the fault is the one with which `add` refuses a row that is the first one of its OID
abbrev pub IsWhyNotMade : Table → TypeRow → TypeFault → Type 0
IsWhyNotMade table row Memory = ⊥
IsWhyNotMade table row Duplicate = ⊥
IsWhyNotMade table row Recursive = ⊥
IsWhyNotMade table row fault = NotBuiltIn row.oid × IsWhyNotAdded table row fault

-- the fault says why the row at this index makes no type: an earlier row has its OID; or it is the first one, and `add`
-- refuses it so or, if it is recursive, for a part that has a row and no type
abbrev pub IsWhyRefused : Table → List TypeRow → ℕ → TypeRow → TypeFault → Type 0
IsWhyRefused table rows place row Duplicate = IsLater rows place row.oid
IsWhyRefused table rows place row Recursive =
    IsFirst rows place row.oid × ((part : ℕ) × HasRow rows part × IsWhyNotMade table row (Unknown part))
IsWhyRefused table rows place row fault = IsFirst rows place row.oid × IsWhyNotMade table row fault

-- the refused row is the one at this index: its OID, its name, and why it makes no type
abbrev pub IsRefusal : Table → List TypeRow → ℕ → RefusedType → Type 0
IsRefusal table rows place own =
    IsSomeAnd (slice_get rows place) (λ row. (row.oid ≡ own.oid) × (row.name.now ≡ string_bytes own.name)
    × IsWhyRefused table rows place row own.fault)

-- each index is below those after it
abbrev pub Ascend : List ℕ → Type 0
Ascend places = AllPairs (λ place later. place < later) places

-- the refused rows are those at some indices, in the order of the rows
abbrev pub AreRefused : Table → List RefusedType → List TypeRow → Type 0
AreRefused table refused rows = (places : List ℕ) × Ascend places × AllZip (IsRefusal table rows) places refused

-- each row is made, or is one of the refused rows
abbrev pub AreTold : Table → List RefusedType → List TypeRow → Type 0
AreTold table refused rows =
    (place : ℕ) (row : TypeRow) → slice_get rows place ≡ Some row
    → IsMade table rows place row ⊎ ((own : RefusedType) × Contains refused own × IsRefusal table rows place own)

-- the second table has what the first has, and if the types of the first are described, so are those of the second
abbrev pub Grows : List TypeRow → Table → Table → Type 0
Grows rows table after =
    ((oid : ℕ) (own : PgType) → get nat_cmp table oid ≡ Some own → get nat_cmp after oid ≡ Some own)
    × (AreDescribed table rows → AreDescribed after rows)

-- the row at this index is made, if there is one
abbrev pub IsMadeAt : Table → List TypeRow → ℕ → Type 0
IsMadeAt table rows place = ForSome (slice_get rows place) (IsMade table rows place)

-- the fault says why the row at this index, which there is, makes no type
abbrev pub IsStuck : Table → List TypeRow → ℕ → TypeFault → Type 0
IsStuck table rows place fault =
    IsSomeAnd (slice_get rows place) (λ row. IsWhyRefused table rows place row fault)

-- each of these rows has its fault
abbrev pub AreStuck : Table → List TypeRow → List Left → Type 0
AreStuck table rows left = All (λ row. IsStuck table rows row.place row.fault) left

-- the indices of the rows that are left
abbrev pub places_left : List Left → List ℕ
places_left left = map (λ row. row.place) left

-- the row at this index is made, or is one of those that are left
abbrev pub IsMadeOrLeft : Table → List TypeRow → List Left → ℕ → Type 0
IsMadeOrLeft table rows left place = IsMadeAt table rows place ⊎ Contains (places_left left) place

-- each of the rows at these indices is
abbrev pub AreMadeOrLeft : Table → List TypeRow → List ℕ → List Left → Type 0
AreMadeOrLeft table rows places left =
    (place : ℕ) → Contains places place → IsMadeOrLeft table rows left place
