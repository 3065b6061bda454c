-- The rows that are left, and those that are refused.
use Rattle.std.proofs.Common.{arith, ◌≡◌, ◌∙◌, refl, ℕ, zero, suc, List, [], ◌∷◌, ◌++◌}
use Rattle.std.proofs.Common.{length, ◌⊎◌, inl, inr, ⊎_elim, ◌<◌, zero-add, ◌+◌, take, get_or, slice_index}
use Rattle.std.proofs.lemmas.List.{append-nil, get_or-take, get_or_default, length-take-le, map-append, map-id}
use Rattle.std.proofs.lemmas.List.FromFn.{get_or-range_with_len, length-range_with_len, map-range_with_len_more}
use Rattle.std.proofs.lemmas.List.Elements.{All-push, Contains-append_cases, Contains-append_left, Contains-append_right}
use Rattle.std.proofs.lemmas.List.Quantifiers.{all_pairs_push}
use Rattle.std.specs.List.{AllZip, Contains, range_with_len}
use Rattle.pg_client.specs.TypeTables.{Table}
use Rattle.pg_client.specs.WholeCatalogs.{AreMadeOrLeft, AreStuck, Ascend, Grows, IsMadeAt, IsMadeOrLeft, IsStuck, places_left}
use Rattle.pg_client.specs.declared.catalog.left.Left.{Left}
use Rattle.pg_client.specs.declared.catalog.TypeRow.{TypeRow}
use Rattle.pg_client.specs.declared.catalog.refused.RefusedType.{RefusedType}
use Rattle.pg_client.proofs.CatalogGrowth.{made_kept}
use Rattle.pg_client.proofs.RefusedReasons.{stuck_same}

-- a list of one
only : {A : Type 0} (x y : A) → Contains (x ∷ []) y → x ≡ y
only x y (zero, k, e) = e
only x y (suc n, k, e) = absurd (omega arith)

-- a row that is made or left stays so, in a larger table and where more rows are left
stays : (rows : List TypeRow) (table after : Table) (left more : List Left) (place : ℕ) → Grows rows table after
    → IsMadeOrLeft table rows left place → IsMadeOrLeft after rows (left ++ more) place
stays rows table after left more place grows (inl made) = inl (made_kept rows table after place grows made)
stays rows table after left more place grows (inr among) =
    inr (rw (map-append (λ (row : Left). row.place) left more)
    (Contains-append_left _ (places_left more) place among))

-- one more row is made or left
more_told : (rows : List TypeRow) (table after : Table) (places : List ℕ) (left more : List Left) (place : ℕ)
    → Grows rows table after → AreMadeOrLeft table rows places left → IsMadeOrLeft after rows (left ++ more) place
    → AreMadeOrLeft after rows (places ++ place ∷ []) (left ++ more)
more_told rows table after places left more place grows told new other among =
    ⊎_elim
    (λ before. stays rows table after left more other grows (told other before))
    (λ (last : Contains (place ∷ []) other). rw (only place other last) at new)
    (Contains-append_cases places (place ∷ []) other among)

-- one more row is made
pub more_made : (rows : List TypeRow) (table after : Table) (places : List ℕ) (left : List Left) (place : ℕ)
    → Grows rows table after → AreMadeOrLeft table rows places left → IsMadeAt after rows place
    → AreMadeOrLeft after rows (places ++ place ∷ []) left
more_made rows table after places left place grows told made =
    rw (append-nil left) at (more_told rows table after places left [] place grows told (inl made))

-- one more row is left
pub more_left : (rows : List TypeRow) (table after : Table) (places : List ℕ) (left : List Left) (row : Left)
    → Grows rows table after → AreMadeOrLeft table rows places left
    → AreMadeOrLeft after rows (places ++ row.place ∷ []) (left ++ row ∷ [])
more_left rows table after places left row grows told =
    more_told rows table after places left (row ∷ []) row.place grows told
    (inr (rw (map-append (λ (own : Left). own.place) left (row ∷ []))
    (Contains-append_right (places_left left) (row.place ∷ []) row.place (0, omega arith, refl))))

-- one more row is stuck
pub more_stuck : (rows : List TypeRow) (table after : Table) (left : List Left) (row : Left)
    → after.entries ≡ table.entries → AreStuck table rows left → IsStuck after rows row.place row.fault
    → AreStuck after rows (left ++ row ∷ [])
more_stuck rows table after left row e stuck new =
    All-push (λ own. IsStuck after rows own.place own.fault) left row (λ k d short. stuck_same rows table after _ _ e (stuck k d short)) new

-- the refused row of one that is left
pub refused_of_left : (Q : ℕ → RefusedType → Type 0) (left : List Left) (refused : List RefusedType) (place : ℕ)
    → AllZip (λ row. Q row.place) left refused → Contains (places_left left) place
    → (own : RefusedType) × Contains refused own × Q place own
refused_of_left Q [] refused place all (n, k, e) = absurd (omega (arith, k))
refused_of_left Q (row ∷ left) [] place all among = absurd all
refused_of_left Q (row ∷ left) (own ∷ refused) place all (zero, k, e) = (own, (zero, omega arith, refl), rw e at all.0)
refused_of_left Q (row ∷ left) (own ∷ refused) place all (suc n, k, e) =
    let found = refused_of_left Q left refused place all.1 (n, omega (arith, k), e) in
    (found.0, (suc found.1.0, omega (arith, found.1.1), found.1.2), found.2)

-- the refused rows by the indices of those that are left
pub refused_by_place : (Q : ℕ → RefusedType → Type 0) (left : List Left) (refused : List RefusedType)
    → AllZip (λ row. Q row.place) left refused → AllZip Q (places_left left) refused
refused_by_place Q [] [] all = all
refused_by_place Q [] (own ∷ refused) all = all
refused_by_place Q (row ∷ left) [] all = all
refused_by_place Q (row ∷ left) (own ∷ refused) all = (all.0, refused_by_place Q left refused all.1)

-- each index is among all
pub each_place : (n place : ℕ) → place < n → Contains (range_with_len 0 n) place
each_place n place short =
    (place, omega (arith, length-range_with_len 0 n), get_or-range_with_len 0 n place place short ∙ zero-add place)

-- a row that is made or waits is made or left after a pass over those that wait
pub next_told : (rows : List TypeRow) (table after : Table) (waiting : List ℕ) (left : List Left) (place : ℕ)
    → Grows rows table after → AreMadeOrLeft after rows waiting left
    → IsMadeAt table rows place ⊎ Contains waiting place → IsMadeOrLeft after rows left place
next_told rows table after waiting left place grows told (inl made) = inl (made_kept rows table after place grows made)
next_told rows table after waiting left place grows told (inr waits) = told place waits

-- one more number
pub range_more : (n : ℕ) → range_with_len 0 (n + 1) ≡ range_with_len 0 n ++ n ∷ []
range_more n = simp map-id at (map-range_with_len_more (λ (x : ℕ). x) 0 n n (zero-add n))

-- each row that is left is at one of the indices
abbrev pub AreAmong : List ℕ → List Left → Type 0
AreAmong places left = (place : ℕ) → Contains (places_left left) place → Contains places place

-- they still are where there is one more index
pub among_more : (places : List ℕ) (left : List Left) (place : ℕ) → AreAmong places left
    → AreAmong (places ++ place ∷ []) left
among_more places left place among other has = Contains-append_left places (place ∷ []) other (among other has)

-- and one more row that is left
pub among_left : (places : List ℕ) (left : List Left) (row : Left) → AreAmong places left
    → AreAmong (places ++ row.place ∷ []) (left ++ row ∷ [])
among_left places left row among other has =
    ⊎_elim
    (λ (before : Contains (places_left left) other).
    Contains-append_left places (row.place ∷ []) other (among other before))
    (λ (last : Contains (row.place ∷ []) other). Contains-append_right places (row.place ∷ []) other last)
    (Contains-append_cases (places_left left) (row.place ∷ []) other
    (rw (map-append (λ (own : Left). own.place) left (row ∷ [])) at has))

-- an index among the first ones is below the next one
below_next : (places : List ℕ) (i place : ℕ) → i < length places → Ascend places → Contains (take i places) place
    → place < slice_index places i
below_next places i place short ascend (k, within, e) =
    let front : k < i = omega (arith, within, length-take-le i places (omega arith)) in
    let there : get_or (take i places) k place ≡ get_or places k place = get_or-take i places k place front in
    let same : get_or places k place ≡ get_or places k 0 = get_or_default places k place 0 (omega arith) in
    omega (arith, e, there, same, ascend k i 0 front short)

-- the rows that are left ascend, with the next one
pub ascend_more : (places : List ℕ) (i : ℕ) (left : List Left) (row : Left) → i < length places
    → row.place ≡ slice_index places i → Ascend places → AreAmong (take i places) left → Ascend (places_left left)
    → Ascend (places_left (left ++ row ∷ []))
ascend_more places i left row short next ascend among before =
    rw (map-append (λ (own : Left). own.place) left (row ∷ []))
    (all_pairs_push (λ place later. place < later) (places_left left) row.place before
    (λ k d within. let x = get_or (places_left left) k d in
    rw next (below_next places i x short ascend
    (among x (k, within, get_or_default (places_left left) k x d within)))))

-- all indices ascend
pub all_ascend : (n : ℕ) → Ascend (range_with_len 0 n)
all_ascend n i j d less within =
    let short : j < n = omega (arith, length-range_with_len 0 n) in
    omega (arith, get_or-range_with_len 0 n i d (omega arith), get_or-range_with_len 0 n j d short)
