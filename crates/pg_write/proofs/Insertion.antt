-- Entries inserted in key order, each key once, have what the entries have at each key.
use Rattle.std.proofs.Common.{◌≡◌, ℕ, List, [], ◌∷◌, Bool, true, false, Option, Some, None, cond, refl, sym, ap}
use Rattle.std.proofs.Common.{◌∙◌, Ordering, Less, Equal, Greater}
use Rattle.std.specs.Cmp.Lexicographic.{slice_cmp}
use Rattle.std.specs.List.{AllByRecursion, IsDistinct}
use Rattle.std.specs.List.Sorted.{IsStrictlySortedBy, IsPermutation}
use Rattle.std.specs.Map.{lookup, keys_of}
use Rattle.std.specs.Ordering.{nat_cmp, is_eq, ordering_reverse}
use Rattle.std.specs.Str.{bytes_eq}
use Rattle.std.proofs.lemmas.Cmp.{nat_list_cmp_total, nat_list_eq_equiv}
use Rattle.std.proofs.lemmas.List.Sorted.{IsPermutation-sym, Contains-permutation}
use Rattle.std.proofs.lemmas.Map.Text.{is_eq-slice_cmp}
use Rattle.std.proofs.lemmas.Map.Views.{Contains-from_lookup, lookup-from_Contains}
use Rattle.std.proofs.lemmas.Slice.Eq.{bytes_eq-Decides}
use Rattle.pg_base.specs.Cells.{Cell}
use Rattle.pg_base.specs.Hstore.{Entry, insert_entry, insert_entry_by, in_key_order}
use Rattle.pg_write.proofs.SameEntries.{sorted_same, below_all}

abbrev Above : List ℕ → List Entry → Type 0
Above k es = AllByRecursion (λ y. slice_cmp nat_cmp k y ≡ Less) (keys_of es)

-- the keys are in order, and each stands once
abbrev pub InOrder : List Entry → Type 0
InOrder es = IsStrictlySortedBy (slice_cmp nat_cmp) (keys_of es)

insert_above_by : (o : Ordering) (k : List ℕ) (e f : Entry) (fs rest : List Entry) → slice_cmp nat_cmp k e.0 ≡ Less
    → Above k (f ∷ fs) → Above k rest → Above k (insert_entry_by o e f fs rest)
insert_above_by Less k e f fs rest below h r = (below, h)
insert_above_by Equal k e f fs rest below h r = (below, h.1)
insert_above_by Greater k e f fs rest below h r = (h.0, r)

insert_above : (k : List ℕ) (e : Entry) (fs : List Entry) → slice_cmp nat_cmp k e.0 ≡ Less → Above k fs
    → Above k (insert_entry e fs)
insert_above k e [] below h = (below, tt)
insert_above k e (f ∷ fs) below h =
    insert_above_by (slice_cmp nat_cmp e.0 f.0) k e f fs (insert_entry e fs) below h (insert_above k e fs below h.1)

same_key : (e f : Entry) → slice_cmp nat_cmp e.0 f.0 ≡ Equal → e.0 ≡ f.0
same_key e f c = (bytes_eq-Decides e.0 f.0).0 (sym (is_eq-slice_cmp e.0 f.0) ∙ ap is_eq c)

insert_order_by : (o : Ordering) (e f : Entry) (fs rest : List Entry) → slice_cmp nat_cmp e.0 f.0 ≡ o → Above f.0 fs
    → InOrder fs → InOrder rest → (slice_cmp nat_cmp f.0 e.0 ≡ Less → Above f.0 rest)
    → InOrder (insert_entry_by o e f fs rest)
unfolding IsStrictlySortedBy
insert_order_by Less e f fs rest c above order then_order over = ((c, below_all e.0 f.0 fs c above), (above, order))
insert_order_by Equal e f fs rest c above order then_order over = rw (same_key e f c) (above, order)
insert_order_by Greater e f fs rest c above order then_order over =
    (over (nat_list_cmp_total.antisymm f.0 e.0 ∙ ap ordering_reverse c), then_order)

insert_order : (e : Entry) (fs : List Entry) → InOrder fs → InOrder (insert_entry e fs)
unfolding IsStrictlySortedBy
insert_order e [] h = (tt, tt)
insert_order e (f ∷ fs) h =
    insert_order_by (slice_cmp nat_cmp e.0 f.0) e f fs (insert_entry e fs) refl h.0 h.1 (insert_order e fs h.1)
    (λ below. insert_above f.0 e fs below h.0)

-- entries in key order are so
pub in_order : (es : List Entry) → InOrder (in_key_order es)
unfolding IsStrictlySortedBy
in_order [] = tt
in_order (e ∷ es) = insert_order e (in_key_order es) (in_order es)

-- of two keys that differ, at most one is looked for
swap : (p r : Bool) (a b : Cell) (rest : Option Cell) → (p ≡ true → r ≡ true → ⊥)
    → cond p (Some a) (cond r (Some b) rest) ≡ cond r (Some b) (cond p (Some a) rest)
swap true true a b rest apart = absurd (apart refl refl)
swap true false a b rest apart = refl
swap false true a b rest apart = refl
swap false false a b rest apart = refl

cover : (p : Bool) (a b : Cell) (rest : Option Cell) → cond p (Some a) rest ≡ cond p (Some a) (cond p (Some b) rest)
cover true a b rest = refl
cover false a b rest = refl

differ : (q : List ℕ) (e f : Entry) → slice_cmp nat_cmp e.0 f.0 ≡ Greater → bytes_eq q f.0 ≡ true → bytes_eq q e.0
    ≡ true → ⊥
differ q e f c at_f at_e =
    let same : e.0 ≡ f.0 = sym ((bytes_eq-Decides q e.0).0 at_e) ∙ (bytes_eq-Decides q f.0).0 at_f in
    let equal : bytes_eq e.0 f.0 ≡ true = (bytes_eq-Decides e.0 f.0).1 same in
    let bad : true ≡ false = sym equal ∙ sym (is_eq-slice_cmp e.0 f.0) ∙ ap is_eq c in cc

insert_lookup_by : (o : Ordering) (q : List ℕ) (e f : Entry) (fs rest : List Entry) → slice_cmp nat_cmp e.0 f.0 ≡ o
    → lookup (bytes_eq q) rest ≡ lookup (bytes_eq q) (e ∷ fs)
    → lookup (bytes_eq q) (insert_entry_by o e f fs rest) ≡ lookup (bytes_eq q) (e ∷ f ∷ fs)
insert_lookup_by Less q e f fs rest c later = refl
insert_lookup_by Equal q e f fs rest c later =
    cover (bytes_eq q e.0) e.1 f.1 (lookup (bytes_eq q) fs)
    ∙ ap (λ (k : List ℕ). cond (bytes_eq q e.0) (Some e.1) (cond (bytes_eq q k) (Some f.1) (lookup (bytes_eq q) fs)))
    (same_key e f c)
insert_lookup_by Greater q e f fs rest c later =
    ap (λ (found : Option Cell). cond (bytes_eq q f.0) (Some f.1) found) later
    ∙ swap (bytes_eq q f.0) (bytes_eq q e.0) f.1 e.1 (lookup (bytes_eq q) fs) (differ q e f c)

insert_lookup : (q : List ℕ) (e : Entry) (fs : List Entry) → lookup (bytes_eq q) (insert_entry e fs)
    ≡ lookup (bytes_eq q) (e ∷ fs)
insert_lookup q e [] = refl
insert_lookup q e (f ∷ fs) = insert_lookup_by (slice_cmp nat_cmp e.0 f.0) q e f fs (insert_entry e fs) refl
    (insert_lookup q e fs)

-- and have what the entries have at each key
pub in_order_lookup : (q : List ℕ) (es : List Entry) → lookup (bytes_eq q) (in_key_order es) ≡ lookup (bytes_eq q) es
in_order_lookup q [] = refl
in_order_lookup q (e ∷ es) =
    insert_lookup q e (in_key_order es)
    ∙ ap (λ (found : Option Cell). cond (bytes_eq q e.0) (Some e.1) found) (in_order_lookup q es)

-- a permutation has the same at each key, where keys differ
moved_lookup : (q : List ℕ) (es fs : List Entry) (found there : Option Cell) → IsPermutation es fs
    → IsDistinct bytes_eq (keys_of es) → IsDistinct bytes_eq (keys_of fs)
    → lookup (bytes_eq q) es ≡ found → lookup (bytes_eq q) fs ≡ there → found ≡ there
moved_lookup q es fs (Some v) there p d f a b =
    let has = Contains-permutation es fs (q, v) p (Contains-from_lookup (λ x y. (bytes_eq-Decides x y).0) q v es a) in
    sym (lookup-from_Contains nat_list_eq_equiv q v fs f has) ∙ b
moved_lookup q es fs None None p d f a b = refl
moved_lookup q es fs None (Some v) p d f a b =
    let has = Contains-permutation fs es (q, v) (IsPermutation-sym es fs p)
    (Contains-from_lookup (λ x y. (bytes_eq-Decides x y).0) q v fs b) in
    sym a ∙ lookup-from_Contains nat_list_eq_equiv q v es d has

-- entries whose keys differ, once sorted, are those in key order
pub sorted_in_order : (es fs : List Entry) → IsPermutation es fs → IsDistinct bytes_eq (keys_of es)
    → IsDistinct bytes_eq (keys_of fs) → IsStrictlySortedBy (slice_cmp nat_cmp) (keys_of fs)
    → fs ≡ in_key_order es
sorted_in_order es fs moved d f sorted =
    sorted_same fs (in_key_order es) sorted (in_order es)
    (λ q. sym (moved_lookup q es fs _ _ moved d f refl refl) ∙ sym (in_order_lookup q es))
