-- Keys that are sorted and differ are strictly sorted.
use Rattle.std.proofs.Common.{◌≡◌, ◌<◌, ◌+◌, ℕ, zero, suc, List, [], ◌∷◌, false, Option, String, string_bytes}
use Rattle.std.proofs.Common.{string_eq, length, get_or, map, refl, sym, ap, ◌∙◌, true≢false, arith, add-one}
use Rattle.std.proofs.Common.{Ordering, Less, Equal, Greater}
use Rattle.std.specs.Borrow.{Bor}
use Rattle.std.specs.Global.{Global}
use Rattle.std.specs.Str.{bytes_eq}
use Rattle.std.specs.Ordering.{nat_cmp, is_lt, is_eq, ordering_reverse}
use Rattle.std.specs.Cmp.Lexicographic.{slice_cmp}
use Rattle.std.specs.List.{IsDistinct, AllByRecursion}
use Rattle.std.specs.List.Sorted.{IsSortedByKey, IsStrictlySortedBy}
use Rattle.std.specs.Map.{keys_of}
use Rattle.std.proofs.lemmas.Cmp.{nat_list_cmp_total}
use Rattle.std.proofs.lemmas.Map.Text.{is_eq-slice_cmp}
use Rattle.std.proofs.lemmas.Map.Keys.{sorted_from_all_adjacent}
use Rattle.pg_base.specs.Hstore.{borrowed_entry, owned_entry}

abbrev pub BorrowedEntry : Type 0
BorrowedEntry = Bor (List ℕ) × Option (Bor (List ℕ))

apart_next : (ks : List (List ℕ)) (k : ℕ) (d : List ℕ) → IsDistinct bytes_eq ks → suc k < length ks
    → bytes_eq (get_or ks k d) (get_or ks (suc k) d) ≡ false
unfolding IsDistinct
apart_next [] k d h l = absurd (omega arith)
apart_next (x ∷ []) k d h l = absurd (omega arith)
apart_next (x ∷ y ∷ zs) zero d h l = h.0.0
apart_next (x ∷ y ∷ zs) (suc k) d h l = apart_next (y ∷ zs) k d h.1 (omega arith)

less_of : (o p : Ordering) → p ≡ ordering_reverse o → is_lt p ≡ false → is_eq o ≡ false → o ≡ Less
less_of Less p e l q = refl
less_of Equal p e l q = absurd (true≢false q)
less_of Greater p e l q = absurd (true≢false (sym (ap is_lt e) ∙ l))

all_bytes : (x : String Global) (es : List (String Global × Option (String Global)))
    → AllByRecursion (λ y. string_eq x y ≡ false) (keys_of es)
    → AllByRecursion (λ y. bytes_eq (string_bytes x) y ≡ false) (map (λ e. e.0) (map owned_entry es))
all_bytes x [] h = tt
all_bytes x (e ∷ es) h = (h.0, all_bytes x es h.1)

-- the bytes of a map's keys differ
pub distinct_bytes : (es : List (String Global × Option (String Global))) → IsDistinct string_eq (keys_of es)
    → IsDistinct bytes_eq (map (λ e. e.0) (map owned_entry es))
unfolding IsDistinct
distinct_bytes [] h = tt
distinct_bytes (e ∷ es) h = (all_bytes e.0 es h.0, distinct_bytes es h.1)

key_at : (xs : List BorrowedEntry) (k : ℕ) (d : BorrowedEntry)
    → get_or (map (λ e. e.0) (map borrowed_entry xs)) k d.0.now ≡ (get_or xs k d).0.now
key_at [] k d = refl
key_at (x ∷ xs) zero d = refl
key_at (x ∷ xs) (suc k) d = key_at xs k d

length_keys : (xs : List BorrowedEntry) → length (map (λ e. e.0) (map borrowed_entry xs)) ≡ length xs
length_keys [] = refl
length_keys (x ∷ xs) = ap suc (length_keys xs)

pub strictly_sorted : (xs : List BorrowedEntry) (d : BorrowedEntry)
    → IsSortedByKey (λ e. e.0) (λ x y. slice_cmp nat_cmp x.now y.now) xs
    → IsDistinct bytes_eq (map (λ e. e.0) (map borrowed_entry xs))
    → IsStrictlySortedBy (slice_cmp nat_cmp) (map (λ e. e.0) (map borrowed_entry xs))
strictly_sorted xs d sorted distinct =
    let ks : List (List ℕ) = map (λ e. e.0) (map borrowed_entry xs) in
    sorted_from_all_adjacent nat_list_cmp_total ks d.0.now (λ k h.
    let a : List ℕ = (get_or xs k d).0.now in
    let b : List ℕ = (get_or xs (k + 1) d).0.now in
    let within : k + 1 < length xs = omega (arith, length_keys xs) in
    let lt : is_lt (slice_cmp nat_cmp b a) ≡ false = sorted k d (omega arith) within in
    let next : bytes_eq (get_or ks k d.0.now) (get_or ks (suc k) d.0.now) ≡ false =
    apart_next ks k d.0.now distinct (omega (arith, h)) in
    let apart : bytes_eq a b ≡ false
    = sym (ap (λ (x : List ℕ). bytes_eq x b) (key_at xs k d))
    ∙ sym (ap (λ (y : List ℕ). bytes_eq (get_or ks k d.0.now) y) (key_at xs (k + 1) d))
    ∙ ap (λ (i : ℕ). bytes_eq (get_or ks k d.0.now) (get_or ks i d.0.now)) (add-one k) ∙ next in
    let less : slice_cmp nat_cmp a b ≡ Less =
    less_of (slice_cmp nat_cmp a b) (slice_cmp nat_cmp b a) (nat_list_cmp_total.antisymm b a) lt
    (is_eq-slice_cmp a b ∙ apart) in
    ap (λ (x : List ℕ). slice_cmp nat_cmp x (get_or ks (k + 1) d.0.now)) (key_at xs k d)
    ∙ ap (λ (y : List ℕ). slice_cmp nat_cmp a y) (key_at xs (k + 1) d) ∙ less)
