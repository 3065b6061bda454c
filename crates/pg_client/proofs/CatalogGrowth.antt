-- A table that takes one more type has what it had, and what rows describe there they still describe.
use Rattle.std.proofs.Common.{◌≡◌, ◌≢◌, ◌∙◌, sym, ap, ℕ, List, [], ◌∷◌, Option, Some, None, inl, inr, ⊎_elim, refl}
use Rattle.std.proofs.Common.{IsSome, IfNone, is_some, false}
use Rattle.std.proofs.lemmas.Bool.{cases_eq}
use Rattle.std.specs.Option.{IsSomeAnd}
use Rattle.std.specs.List.{AllZip, slice_get}
use Rattle.std.specs.Ordering.{nat_cmp}
use Rattle.std.specs.BTreeMap.{get, is_at}
use Rattle.std.specs.Map.{lookup}
use Rattle.pg_types.specs.declared.types.PgType.{PgType}
use Rattle.pg_types.specs.Content.{Content, KindContent, content}
use Rattle.pg_client.specs.CatalogRows.{kind_of_letter}
use Rattle.pg_client.specs.CatalogTypes.{Adds, AddsOrHas, Describes, Holds, IsKind, IsTypeOf}
use Rattle.pg_client.specs.RowPlaces.{IsFirst}
use Rattle.pg_client.specs.TypeTables.{Table}
use Rattle.pg_client.specs.WholeCatalogs.{AreDescribed, Grows, HasType, IsMadeAt}
use Rattle.pg_client.specs.declared.catalog.TypeRow.{TypeRow}
use Rattle.pg_client.specs.declared.catalog.kinds.TypeKind.{TypeKind}
use Rattle.pg_client.specs.declared.catalog.kinds.TypeKind.TheVariants.{Base, Enum, Pseudo, Array, Range, Multirange}
use Rattle.pg_client.specs.declared.catalog.kinds.TypeKind.TheVariants.{Domain, Composite}

-- the second table has what the first has
abbrev pub Extends : Table → Table → Type 0
Extends table after = (oid : ℕ) (own : PgType) → get nat_cmp table oid ≡ Some own → get nat_cmp after oid ≡ Some own

-- what holds of a value holds of the same value
some_kept : {A : Type 0} (P : A → Type 0) (o p : Option A) → ((x : A) → o ≡ Some x → p ≡ Some x) → IsSomeAnd o P
    → IsSomeAnd p P
some_kept P None p f h = absurd h
some_kept P (Some x) p f h = rw (f x refl) h

-- what holds of a value that is there holds of it
pub some_at : {A : Type 0} (P : A → Type 0) (o : Option A) (x : A) → o ≡ Some x → IsSomeAnd o P → P x
some_at P None x e h = absurd h
some_at P (Some y) x e h = let f : y ≡ x = cc in rw (sym f) h

-- a weaker fact holds too
pub some_weaker : {A : Type 0} (P Q : A → Type 0) (o : Option A) → ((x : A) → P x → Q x) → IsSomeAnd o P → IsSomeAnd o Q
some_weaker P Q None f h = h
some_weaker P Q (Some x) f h = f x h

-- where no value is there, what holds then
pub where_none : {A : Type 0} {P : Type 0} (o : Option A) → is_some o ≡ false → IfNone o P → P
where_none None none h = h
where_none (Some x) none h = absurd cc

-- the same of pairs
all_weaker : {A B : Type 0} (R S : A → B → Type 0) (xs : List A) (ys : List B) → ((x : A) (y : B) → R x y → S x y)
    → AllZip R xs ys → AllZip S xs ys
all_weaker R S [] [] f h = h
all_weaker R S [] (y ∷ ys) f h = h
all_weaker R S (x ∷ xs) [] f h = h
all_weaker R S (x ∷ xs) (y ∷ ys) f h = (f x y h.0, all_weaker R S xs ys f h.1)

-- an OID keeps its type
type_kept : (table after : Table) (oid : ℕ) (ty : Content) → Extends table after → IsTypeOf table oid ty
    → IsTypeOf after oid ty
type_kept table after oid ty e (inl built_in) = inl built_in
type_kept table after oid ty e (inr own) =
    inr (own.0, some_kept _ (get nat_cmp table oid) (get nat_cmp after oid) (e oid) own.1)

-- a kind keeps its part
part_kept : (of_part : Content → KindContent) (table after : Table) (oid : ℕ) (kind : KindContent)
    → Extends table after → Holds of_part table oid kind → Holds of_part after oid kind
part_kept of_part table after oid kind e h = (h.0, type_kept table after oid h.0 e h.1, h.2)

-- a row still describes its kind
kind_kept : (table after : Table) (row : TypeRow) (letter : TypeKind) (kind : KindContent) → Extends table after
    → IsKind table row letter kind → IsKind after row letter kind
kind_kept table after row Base kind e h = h
kind_kept table after row Enum kind e h = h
kind_kept table after row Pseudo kind e h = h
kind_kept table after row Array kind e h = part_kept _ table after row.element kind e h
kind_kept table after row Range kind e h = part_kept _ table after row.element kind e h
kind_kept table after row Multirange kind e h = part_kept _ table after row.element kind e h
kind_kept table after row Domain kind e h = part_kept _ table after row.base kind e h
kind_kept table after row Composite kind e h =
    (h.0, (h.1.0, all_weaker _ _ _ h.0 (λ column field f. (f.0, type_kept table after column.1 _ e f.1)) h.1.1), h.2)

-- a row still describes its type
pub described_kept : (table after : Table) (row : TypeRow) (ty : Content) → Extends table after → Describes table row ty
    → Describes after row ty
described_kept table after row ty e h =
    (h.0, h.1, h.2, some_weaker _ _ (kind_of_letter row.kind) (λ letter. kind_kept table after row letter _ e) h.3)

-- a table with one more type has what it had
adds_extends : (table after : Table) (row : TypeRow) → Adds table row after → Extends table after
adds_extends table after row adds oid own h =
    let none : get nat_cmp table row.oid ≡ None = adds.0 in
    ⊎_elim
    (λ (same : oid ≡ row.oid). let e : get nat_cmp table oid ≡ None = rw same none in absurd cc)
    (λ (other : oid ≢ row.oid). adds.2 oid other ∙ h)
    (cases_eq oid row.oid)

-- each type of it is described
adds_described : (table after : Table) (row : TypeRow) (rows : List TypeRow) (place : ℕ)
    → slice_get rows place ≡ Some row → IsFirst rows place row.oid → Adds table row after → AreDescribed table rows
    → AreDescribed after rows
adds_described table after row rows place at first adds all oid own h =
    let e : Extends table after = adds_extends table after row adds in
    ⊎_elim
    (λ (same : oid ≡ row.oid).
    let new : Describes table row (content own) = some_at _ (get nat_cmp after row.oid) own
    (rw (sym same) h) adds.1 in
    (place, rw at (described_kept table after row (content own) e new, first)))
    (λ (other : oid ≢ row.oid).
    let old : get nat_cmp table oid ≡ Some own = sym (adds.2 oid other) ∙ h in
    let was = all oid own old in (
      was.0,
      some_weaker _ _ (slice_get rows was.0) (λ r d. (described_kept table after r (content own) e d.0, d.1)) was.1,
    ))
    (cases_eq oid row.oid)

-- a table of the same entries has what it had
extends_same : (table after : Table) → after.entries ≡ table.entries → Extends table after
extends_same table after e oid own h = ap (lookup (is_at (nat_cmp oid))) e ∙ h

-- each type of a table of the same entries is described where it was
same_described : (table after : Table) (rows : List TypeRow) → after.entries ≡ table.entries → AreDescribed table rows
    → AreDescribed after rows
same_described table after rows e all oid own h =
    let was = all oid own (extends_same after table (sym e) oid own h) in (
      was.0,
      some_weaker _ _ (slice_get rows was.0)
          (λ row d. (described_kept table after row (content own) (extends_same table after e) d.0, d.1)) was.1,
    )

-- a table of the same entries
pub grows_same : (rows : List TypeRow) (table after : Table) → after.entries ≡ table.entries → Grows rows table after
grows_same rows table after e = (extends_same table after e, same_described table after rows e)

-- a table to which the type of a first row was added
pub grows_added : (rows : List TypeRow) (place : ℕ) (row : TypeRow) (table after : Table)
    → slice_get rows place ≡ Some row → IsFirst rows place row.oid → AddsOrHas table row after
    → Grows rows table after
grows_added rows place row table after at first (inl same) = grows_same rows table after same.1
grows_added rows place row table after at first (inr new) =
    (adds_extends table after row new.1, adds_described table after row rows place at first new.1)

-- one after the other
pub grows_both : (rows : List TypeRow) (s t u : Table) → Grows rows s t → Grows rows t u → Grows rows s u
grows_both rows s t u f g = (λ oid own h. g.0 oid own (f.0 oid own h), λ d. g.1 (f.1 d))

-- a table without types has none that no row describes
pub none_described : (table : Table) (rows : List TypeRow) → table.entries ≡ [] → AreDescribed table rows
none_described table rows e oid own h =
    let none : get nat_cmp table oid ≡ None = ap (lookup (is_at (nat_cmp oid))) e in
    absurd cc

-- a type that is there is there in a larger table
some_more : (o p : Option PgType) → ((own : PgType) → o ≡ Some own → p ≡ Some own) → IsSome o → IsSome p
some_more None p f h = cc
some_more (Some own) p f h = rw (f own refl) refl

-- an OID that has a type has it in a larger table
has_kept : (table after : Table) (oid : ℕ) → Extends table after → HasType table oid → HasType after oid
has_kept table after oid e (inl built_in) = inl built_in
has_kept table after oid e (inr own) = inr (some_more (get nat_cmp table oid) (get nat_cmp after oid) (e oid) own)

-- a row that is made is made in a larger table
pub made_kept : (rows : List TypeRow) (table after : Table) (place : ℕ) → Grows rows table after
    → IsMadeAt table rows place → IsMadeAt after rows place
made_kept rows table after place grows made row at =
    let was = made row at in (was.0, has_kept table after row.oid grows.0 was.1)
