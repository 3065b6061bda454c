-- Why a row makes no type, in a table of the same entries, and as the fault of a refused row.
use Rattle.std.proofs.Common.{◌≡◌, ◌∙◌, ap, ℕ, List, Option, Some, None, IsSome, BTreeMap, refl}
use Rattle.std.specs.Option.{MatchOption}
use Rattle.std.specs.List.{slice_get}
use Rattle.std.specs.Ordering.{nat_cmp}
use Rattle.std.specs.BTreeMap.{get, is_at}
use Rattle.std.specs.Map.{lookup}
use denote.Ref.{Bor}
use Rattle.pg_client.specs.CatalogRows.{kind_of_letter}
use Rattle.pg_client.specs.CatalogTypes.{IsUnknown, IsWhyNoFields, IsWhyNoKind, IsWhyNoPart, IsWhyNotAdded}
use Rattle.pg_client.specs.CatalogTypes.{NotBuiltIn}
use Rattle.pg_client.specs.RowPlaces.{HasFirsts, IsFirst}
use Rattle.pg_client.specs.TypeTables.{Table}
use Rattle.pg_client.specs.WholeCatalogs.{IsStuck, IsWhyNotMade, IsWhyRefused}
use Rattle.pg_client.specs.declared.catalog.TypeRow.{TypeRow}
use Rattle.pg_client.specs.declared.catalog.refused.TypeFault.{TypeFault}
use Rattle.pg_client.specs.declared.catalog.refused.TypeFault.TheVariants.{Memory, Kind, Unknown, Recursive, Fields}
use Rattle.pg_client.specs.declared.catalog.refused.TypeFault.TheVariants.{Duplicate}
use Rattle.pg_client.specs.declared.catalog.kinds.TypeKind.{TypeKind}
use Rattle.pg_client.specs.declared.catalog.kinds.TypeKind.TheVariants.{Base, Enum, Pseudo, Array, Range, Multirange}
use Rattle.pg_client.specs.declared.catalog.kinds.TypeKind.TheVariants.{Domain, Composite}
use Rattle.pg_client.proofs.CatalogGrowth.{some_weaker}

-- an OID without a type has none in a table of the same entries
unknown_same : (table after : Table) (oid : ℕ) → after.entries ≡ table.entries → IsUnknown table oid
    → IsUnknown after oid
unknown_same table after oid e unknown = (unknown.0, ap (lookup (is_at (nat_cmp oid))) e ∙ unknown.1)

-- so a part has none for the same reason
part_same : (table after : Table) (oid : ℕ) (fault : TypeFault) → after.entries ≡ table.entries
    → IsWhyNoPart table oid fault → IsWhyNoPart after oid fault
part_same table after oid (Unknown part) e why = (why.0, unknown_same table after oid e why.1)
part_same table after oid fault e why = why

-- and fields
fields_same : (table after : Table) (names : List (Bor (List ℕ))) (oids : List ℕ) (fault : TypeFault)
    → after.entries ≡ table.entries → IsWhyNoFields table names oids fault → IsWhyNoFields after names oids fault
fields_same table after names oids (Unknown part) e why = (why.0, unknown_same table after part e why.1)
fields_same table after names oids fault e why = why

-- and a row of some kind
kind_same : (table after : Table) (row : TypeRow) (letter : TypeKind) (fault : TypeFault)
    → after.entries ≡ table.entries → IsWhyNoKind table row letter fault → IsWhyNoKind after row letter fault
kind_same table after row Base fault e why = why
kind_same table after row Enum fault e why = why
kind_same table after row Pseudo fault e why = why
kind_same table after row Array fault e why = part_same table after row.element fault e why
kind_same table after row Range fault e why = part_same table after row.element fault e why
kind_same table after row Multirange fault e why = part_same table after row.element fault e why
kind_same table after row Domain fault e why = part_same table after row.base fault e why
kind_same table after row Composite fault e why =
    fields_same table after row.field_names.items row.field_types.items fault e why

-- and a row
row_same : (table after : Table) (row : TypeRow) (fault : TypeFault) (letter : Option TypeKind)
    → after.entries ≡ table.entries
    → MatchOption letter (fault ≡ Kind row.kind) (λ kind. IsWhyNoKind table row kind fault)
    → MatchOption letter (fault ≡ Kind row.kind) (λ kind. IsWhyNoKind after row kind fault)
row_same table after row fault None e why = why
row_same table after row fault (Some letter) e why = kind_same table after row letter fault e why

-- a row is not made for the same reason
made_same : (table after : Table) (row : TypeRow) (fault : TypeFault) → after.entries ≡ table.entries
    → IsWhyNotMade table row fault → IsWhyNotMade after row fault
made_same table after row Memory e why = why
made_same table after row Duplicate e why = why
made_same table after row Recursive e why = why
made_same table after row (Kind letter) e why =
    (why.0, row_same table after row (Kind letter) (kind_of_letter row.kind) e why.1)
made_same table after row (Unknown part) e why =
    (why.0, row_same table after row (Unknown part) (kind_of_letter row.kind) e why.1)
made_same table after row Fields e why =
    (why.0, row_same table after row Fields (kind_of_letter row.kind) e why.1)

-- and refused
refused_same : (rows : List TypeRow) (table after : Table) (place : ℕ) (row : TypeRow) (fault : TypeFault)
    → after.entries ≡ table.entries → IsWhyRefused table rows place row fault
    → IsWhyRefused after rows place row fault
refused_same rows table after place row Memory e why = (why.0, made_same table after row Memory e why.1)
refused_same rows table after place row Duplicate e why = why
refused_same rows table after place row Recursive e why =
    (why.0, (why.1.0, why.1.1, made_same table after row (Unknown why.1.0) e why.1.2))
refused_same rows table after place row (Kind letter) e why = (why.0, made_same table after row (Kind letter) e why.1)
refused_same rows table after place row (Unknown part) e why = (why.0, made_same table after row (Unknown part) e why.1)
refused_same rows table after place row Fields e why = (why.0, made_same table after row Fields e why.1)

-- so is the row at an index
pub stuck_same : (rows : List TypeRow) (table after : Table) (place : ℕ) (fault : TypeFault)
    → after.entries ≡ table.entries → IsStuck table rows place fault → IsStuck after rows place fault
stuck_same rows table after place fault e why =
    some_weaker _ _ (slice_get rows place) (λ row. refused_same rows table after place row fault e) why

-- `add` refuses no row as recursive
never_recursive : (table : Table) (row : TypeRow) (letter : Option TypeKind)
    → MatchOption letter (Recursive ≡ Kind row.kind) (λ kind. IsWhyNoKind table row kind Recursive) → ⊥
never_recursive table row None why = absurd cc
never_recursive table row (Some Base) why = absurd cc
never_recursive table row (Some Enum) why = absurd cc
never_recursive table row (Some Pseudo) why = absurd cc
never_recursive table row (Some Array) why = why
never_recursive table row (Some Range) why = why
never_recursive table row (Some Multirange) why = why
never_recursive table row (Some Domain) why = why
never_recursive table row (Some Composite) why = why

-- a fault of `add` says why a row is not made
not_made : (table : Table) (row : TypeRow) (fault : TypeFault) → NotBuiltIn row.oid → IsWhyNotAdded table row fault
    → (fault ≡ Memory → ⊥) → (fault ≡ Duplicate → ⊥) → IsWhyNotMade table row fault
not_made table row Memory own why m d = m refl
not_made table row Duplicate own why m d = d refl
not_made table row Recursive own why m d = absurd (never_recursive table row (kind_of_letter row.kind) why)
not_made table row (Kind letter) own why m d = (own, why)
not_made table row (Unknown part) own why m d = (own, why)
not_made table row Fields own why m d = (own, why)

-- the same in a table of the same entries
pub why_not_made : (table after : Table) (row : TypeRow) (fault : TypeFault) → after.entries ≡ table.entries
    → NotBuiltIn row.oid → IsWhyNotAdded table row fault → (fault ≡ Memory → ⊥) → (fault ≡ Duplicate → ⊥)
    → IsWhyNotMade after row fault
why_not_made table after row fault e own why m d =
    made_same table after row fault e (not_made table row fault own why m d)

-- why a first row is not made says why it is refused
pub first_refused : (table : Table) (rows : List TypeRow) (place : ℕ) (row : TypeRow) (fault : TypeFault)
    → IsFirst rows place row.oid → IsWhyNotMade table row fault → IsWhyRefused table rows place row fault
first_refused table rows place row Duplicate first why = absurd why
first_refused table rows place row Recursive first why = absurd why
first_refused table rows place row fault first why = (first, why)

-- a value that is there
some_there : (o : Option ℕ) → IsSome o → (x : ℕ) × (o ≡ Some x)
some_there None h = absurd cc
some_there (Some x) h = (x, refl)

-- a row that is refused for a part that has a row may be refused as recursive
pub recursive_stuck : (table : Table) (rows : List TypeRow) (firsts : BTreeMap ℕ ℕ) (place part : ℕ)
    → IsSome (get nat_cmp firsts part) → HasFirsts rows firsts → IsStuck table rows place (Unknown part)
    → IsStuck table rows place Recursive
recursive_stuck table rows firsts place part has firsts_of stuck =
    let first = some_there (get nat_cmp firsts part) has in
    let own = firsts_of.0 part first.0 first.1 in
    some_weaker _ _ (slice_get rows place) (λ row why. (why.0, (part, (first.0, own.0), why.1))) stuck
