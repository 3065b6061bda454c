-- Which row is the first one of its OID, by the indices of the first rows.
use Rattle.std.proofs.Common.{arith, ◌≡◌, ◌≢◌, ◌<◌, ◌≤◌, ◌+◌, ◌∙◌, sym, ℕ, List, Some, None, IsSome, refl, ⊎_elim, true, false}
use Rattle.std.proofs.lemmas.Bool.{cases_eq}
use Rattle.std.proofs.lemmas.Grind.{common_steps}
use Rattle.std.specs.List.{slice_get}
use Rattle.std.specs.Option.{is_some}
use Rattle.std.specs.Ordering.{nat_cmp}
use Rattle.std.specs.BTreeMap.{BTreeMap, Updates, get}
use Rattle.pg_client.specs.RowPlaces.{HasFirsts, HasOid, IsFirst, IsLater}
use Rattle.pg_client.specs.declared.catalog.TypeRow.{TypeRow}

-- the first row of an OID is not after a row that has it
not_after : (rows : List TypeRow) (first place : ℕ) (row : TypeRow) → IsFirst rows first row.oid
    → slice_get rows place ≡ Some row → first ≤ place
not_after rows first place row none at =
    let not : place < first → ⊥ = λ before. none place row before at refl in
    omega arith

-- the row at the index for its OID is the first one
pub first_at : (rows : List TypeRow) (firsts : BTreeMap ℕ ℕ) (first place : ℕ) (row : TypeRow) → HasFirsts rows firsts
    → get nat_cmp firsts row.oid ≡ Some first → first ≡ place → IsFirst rows place row.oid
first_at rows firsts first place row has found same = rw same at (has.0 row.oid first found).1

-- a row at another index is a later one
pub later_at : (rows : List TypeRow) (firsts : BTreeMap ℕ ℕ) (first place : ℕ) (row : TypeRow) → HasFirsts rows firsts
    → slice_get rows place ≡ Some row → get nat_cmp firsts row.oid ≡ Some first → first ≢ place
    → IsLater rows place row.oid
later_at rows firsts first place row has at found other =
    let own = has.0 row.oid first found in
    let up : first ≤ place = not_after rows first place row own.1 at in
    (first, omega arith, own.0)

-- the first rows of the OIDs of the rows before an index
abbrev pub HasFirstsBelow : List TypeRow → BTreeMap ℕ ℕ → ℕ → Type 0
HasFirstsBelow rows firsts end =
    ((oid place : ℕ) → get nat_cmp firsts oid ≡ Some place
    → HasOid rows place oid × IsFirst rows place oid × (place < end))
    × ((place : ℕ) (row : TypeRow) → place < end → slice_get rows place ≡ Some row
    → IsSome (get nat_cmp firsts row.oid))

-- the row there has an entry, or the entries are extended to it
all_more : (rows : List TypeRow) (firsts after : BTreeMap ℕ ℕ) (end : ℕ) (row : TypeRow) → slice_get rows end ≡ Some row
    → ((oid : ℕ) → IsSome (get nat_cmp firsts oid) → IsSome (get nat_cmp after oid))
    → IsSome (get nat_cmp after row.oid) → HasFirstsBelow rows firsts end → (place : ℕ) (other : TypeRow)
    → place < end + 1 → slice_get rows place ≡ Some other → IsSome (get nat_cmp after other.oid)
all_more rows firsts after end row here grown has below place other short at =
    ⊎_elim
    (λ (same : place ≡ end). let e : row ≡ other = (let f : slice_get rows place ≡ Some row = rw same here in cc) in
    rw e at has)
    (λ (apart : place ≢ end). grown other.oid (below.1 place other (omega arith) at))
    (cases_eq place end)

-- the row there is of an OID that was met before
pub firsts_kept : (rows : List TypeRow) (firsts : BTreeMap ℕ ℕ) (end : ℕ) (row : TypeRow)
    → slice_get rows end ≡ Some row → IsSome (get nat_cmp firsts row.oid) → HasFirstsBelow rows firsts end
    → HasFirstsBelow rows firsts (end + 1)
firsts_kept rows firsts end row here has below = (
  λ oid place found. let own = below.0 oid place found in (own.0, own.1, omega (arith, own.2)),
  all_more rows firsts firsts end row here (λ oid some. some) has below,
)

-- another OID keeps its entry
get_other : (firsts after : BTreeMap ℕ ℕ) (oid end : ℕ) → Updates nat_cmp firsts after oid (Some end)
    → (other : ℕ) → other ≢ oid → get nat_cmp after other ≡ get nat_cmp firsts other
get_other firsts after oid end new other apart = grind (arith, common_steps, new.2 other)

-- each OID keeps an entry
some_kept : (firsts after : BTreeMap ℕ ℕ) (oid end : ℕ) → Updates nat_cmp firsts after oid (Some end)
    → (other : ℕ) → IsSome (get nat_cmp firsts other) → IsSome (get nat_cmp after other)
some_kept firsts after oid end new other some =
    ⊎_elim
    (λ (same : other ≡ oid). rw (same, new.1) refl)
    (λ (apart : other ≢ oid). rw (get_other firsts after oid end new other apart) some)
    (cases_eq other oid)

-- no row before the index has an OID that was not met before
none_before : (rows : List TypeRow) (firsts : BTreeMap ℕ ℕ) (end oid : ℕ) → get nat_cmp firsts oid ≡ None
    → HasFirstsBelow rows firsts end → IsFirst rows end oid
none_before rows firsts end oid none below earlier row before at same =
    let some : is_some (get nat_cmp firsts oid) ≡ true = rw same at (below.1 earlier row before at) in
    let bad : false ≡ true = rw none at some in
    absurd cc

-- the row there is the first of its OID
pub firsts_more : (rows : List TypeRow) (firsts after : BTreeMap ℕ ℕ) (end : ℕ) (row : TypeRow)
    → slice_get rows end ≡ Some row → get nat_cmp firsts row.oid ≡ None
    → Updates nat_cmp firsts after row.oid (Some end) → HasFirstsBelow rows firsts end
    → HasFirstsBelow rows after (end + 1)
firsts_more rows firsts after end row here none new below = (
  λ oid place found. ⊎_elim
      (λ (same : oid ≡ row.oid).
      let f : get nat_cmp after row.oid ≡ Some place = rw same at found in
      let e : end ≡ place = cc in
      rw (same, ← e) (rw here refl, none_before rows firsts end row.oid none below, omega arith))
      (λ (apart : oid ≢ row.oid).
      let old : get nat_cmp firsts oid ≡ Some place = sym (get_other firsts after row.oid end new oid apart) ∙ found in
      let own = below.0 oid place old in (own.0, own.1, omega (arith, own.2)))
      (cases_eq oid row.oid),
  all_more rows firsts after end row here (some_kept firsts after row.oid end new) (rw new.1 refl) below,
)
