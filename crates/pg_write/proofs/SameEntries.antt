-- Two sorted lists that have the same at each key are the same list.
use Rattle.std.proofs.Common.{◌≡◌, ℕ, List, [], ◌∷◌, Bool, true, false, Option, None, Some, cond, refl, sym, ap}
use Rattle.std.proofs.Common.{ap₂, ◌∙◌, Ordering, Less, Equal, Greater}
use Rattle.std.specs.Str.{bytes_eq}
use Rattle.std.specs.Ordering.{nat_cmp, is_eq, ordering_reverse}
use Rattle.std.specs.Cmp.Lexicographic.{slice_cmp}
use Rattle.std.specs.List.{AllByRecursion}
use Rattle.std.specs.List.Sorted.{IsStrictlySortedBy}
use Rattle.std.specs.Map.{lookup, keys_of}
use Rattle.std.proofs.lemmas.Cmp.{nat_list_cmp_total, nat_list_eq_equiv}
use Rattle.std.proofs.lemmas.Map.Text.{is_eq-slice_cmp}
use Rattle.std.proofs.lemmas.Slice.Eq.{bytes_eq-Decides}
use Rattle.pg_base.specs.Hstore.{Entry}

abbrev Value : Type 0
Value = Option (List ℕ)

-- what is below all keys is none of them
pub none_above : (k : List ℕ) (es : List Entry) → AllByRecursion (λ y. slice_cmp nat_cmp k y ≡ Less) (keys_of es)
    → lookup (bytes_eq k) es ≡ None
none_above k [] h = refl
none_above k (e ∷ es) h =
    ap (λ (b : Bool). cond b (Some e.1) (lookup (bytes_eq k) es)) (sym (is_eq-slice_cmp k e.0) ∙ ap is_eq h.0)
    ∙ none_above k es h.1

here : (e : Entry) (es : List Entry) → lookup (bytes_eq e.0) (e ∷ es) ≡ Some e.1
here e es = ap (λ (b : Bool). cond b (Some e.1) (lookup (bytes_eq e.0) es)) (nat_list_eq_equiv.refl e.0)

pub below_all : (k l : List ℕ) (es : List Entry) → slice_cmp nat_cmp k l ≡ Less
    → AllByRecursion (λ y. slice_cmp nat_cmp l y ≡ Less) (keys_of es)
    → AllByRecursion (λ y. slice_cmp nat_cmp k y ≡ Less) (keys_of es)
below_all k l [] p h = tt
below_all k l (e ∷ es) p h = (nat_list_cmp_total.trans k l e.0 p h.0, below_all k l es p h.1)

apart : (e f : Entry) (es fs : List Entry) → slice_cmp nat_cmp e.0 f.0 ≡ Less
    → AllByRecursion (λ y. slice_cmp nat_cmp f.0 y ≡ Less) (keys_of fs)
    → lookup (bytes_eq e.0) (e ∷ es) ≡ lookup (bytes_eq e.0) (f ∷ fs) → ⊥
apart e f es fs less above h =
    let bad : ◌≡◌ {A = Option Value} (Some e.1) None = sym (here e es) ∙ h
    ∙ none_above e.0 (f ∷ fs) (less, below_all e.0 f.0 fs less above) in cc

tail_at : (b : Bool) (q : List ℕ) (e f : Entry) (es fs : List Entry) → bytes_eq q e.0 ≡ b → e.0 ≡ f.0
    → AllByRecursion (λ y. slice_cmp nat_cmp e.0 y ≡ Less) (keys_of es)
    → AllByRecursion (λ y. slice_cmp nat_cmp f.0 y ≡ Less) (keys_of fs)
    → lookup (bytes_eq q) (e ∷ es) ≡ lookup (bytes_eq q) (f ∷ fs) → lookup (bytes_eq q) es ≡ lookup (bytes_eq q) fs
tail_at true q e f es fs is same above over h =
    let at : q ≡ e.0 = (bytes_eq-Decides q e.0).0 is in
    ap (λ (k : List ℕ). lookup (bytes_eq k) es) at ∙ none_above e.0 es above
    ∙ sym (ap (λ (k : List ℕ). lookup (bytes_eq k) fs) (at ∙ same) ∙ none_above f.0 fs over)
tail_at false q e f es fs is same above over h =
    sym (ap (λ (b : Bool). cond b (Some e.1) (lookup (bytes_eq q) es)) is) ∙ h
    ∙ ap (λ (b : Bool). cond b (Some f.1) (lookup (bytes_eq q) fs)) (sym (ap (bytes_eq q) same) ∙ is)

heads : (o : Ordering) (e f : Entry) (es fs : List Entry) → slice_cmp nat_cmp e.0 f.0 ≡ o
    → AllByRecursion (λ y. slice_cmp nat_cmp e.0 y ≡ Less) (keys_of es)
    → AllByRecursion (λ y. slice_cmp nat_cmp f.0 y ≡ Less) (keys_of fs)
    → ((q : List ℕ) → lookup (bytes_eq q) (e ∷ es) ≡ lookup (bytes_eq q) (f ∷ fs))
    → (((q : List ℕ) → lookup (bytes_eq q) es ≡ lookup (bytes_eq q) fs) → es ≡ fs) → (e ∷ es) ≡ (f ∷ fs)
heads Less e f es fs c above over h tails = absurd (apart e f es fs c over (h e.0))
heads Greater e f es fs c above over h tails =
    let back : slice_cmp nat_cmp f.0 e.0 ≡ Less = nat_list_cmp_total.antisymm f.0 e.0 ∙ ap ordering_reverse c in
    absurd (apart f e fs es back above (sym (h f.0)))
heads Equal e f es fs c above over h tails =
    let same : e.0 ≡ f.0 = (bytes_eq-Decides e.0 f.0).0 (sym (is_eq-slice_cmp e.0 f.0) ∙ ap is_eq c) in
    let found : ◌≡◌ {A = Option Value} (Some e.1) (Some f.1)
    = sym (here e es) ∙ h e.0 ∙ ap (λ (k : List ℕ). lookup (bytes_eq k) (f ∷ fs)) same ∙ here f fs in
    let value : e.1 ≡ f.1 = cc in
    let head : e ≡ f = ap₂ (λ (a : List ℕ) (b : Value). let p : Entry = (a, b) in p) same value in
    ap₂ (λ (x : Entry) (xs : List Entry). x ∷ xs) head
    (tails (λ q. tail_at (bytes_eq q e.0) q e f es fs refl same above over (h q)))

pub sorted_same : (es fs : List Entry) → IsStrictlySortedBy (slice_cmp nat_cmp) (keys_of es)
    → IsStrictlySortedBy (slice_cmp nat_cmp) (keys_of fs)
    → ((q : List ℕ) → lookup (bytes_eq q) es ≡ lookup (bytes_eq q) fs) → es ≡ fs
unfolding IsStrictlySortedBy
sorted_same [] [] p r h = refl
sorted_same [] (f ∷ fs) p r h = let bad : ◌≡◌ {A = Option Value} None (Some f.1) = h f.0 ∙ here f fs in let no : ⊥ =
    cc in absurd no
sorted_same (e ∷ es) [] p r h = let bad : ◌≡◌ {A = Option Value} (Some e.1) None = sym (here e es) ∙ h e.0 in
    let no : ⊥ = cc in absurd no
sorted_same (e ∷ es) (f ∷ fs) p r h =
    heads (slice_cmp nat_cmp e.0 f.0) e f es fs refl p.0 r.0 h (sorted_same es fs p.1 r.1)
