-- Lemmas on the texts of maps.
use Rattle.std.proofs.Common.{◌≡◌, ℕ, suc, ◌+◌, ◌<◌, List, [], ◌∷◌, ◌++◌, Bool, length, get_or, map, take}
use Rattle.std.proofs.Common.{refl, ap, sym, ◌∙◌, append_assoc, arith}
use Rattle.std.specs.Borrow.{Bor}
use Rattle.std.specs.Prelude.{Option, codes}
use Rattle.std.specs.List.{flat_map}
use Rattle.std.specs.List.Sorted.{IsSortedBy}
use Rattle.std.proofs.lemmas.Bool.{ne_eqb}
use Rattle.std.proofs.lemmas.List.{append-nil, get_or-map, length-map, length-take-le, map_push, take_more}
use Rattle.pg_text.specs.Maps.{comma_at, entries_text, entry_text}
use Rattle.postgres_types.specs.Hstore.{Entry}

-- an entry of borrowed texts
abbrev pub BorrowedEntry : Type 0
BorrowedEntry = Bor (List ℕ) × Option (Bor (List ℕ))

after_first : (n : ℕ) → comma_at (suc n) ≡ codes ", "
after_first n = rw (ne_eqb (suc n) 0 (λ e. omega arith)) refl

others_push : (xs : List Entry) (y : Entry)
    → flat_map (λ e. codes ", " ++ entry_text e) (xs ++ y ∷ [])
    ≡ flat_map (λ e. codes ", " ++ entry_text e) xs ++ (codes ", " ++ entry_text y)
others_push [] y = append-nil (codes ", " ++ entry_text y)
others_push (x ∷ xs) y =
    ap (λ l. (codes ", " ++ entry_text x) ++ l) (others_push xs y)
    ∙ sym (append_assoc (codes ", " ++ entry_text x) (flat_map (λ e. codes ", " ++ entry_text e) xs)
    (codes ", " ++ entry_text y))

-- one more entry
entries_push : (xs : List Entry) (y : Entry)
    → entries_text (xs ++ y ∷ []) ≡ entries_text xs ++ (comma_at (length xs) ++ entry_text y)
entries_push [] y = append-nil (entry_text y)
entries_push (x ∷ xs) y =
    ap (λ l. entry_text x ++ l) (others_push xs y)
    ∙ sym (append_assoc (entry_text x) (flat_map (λ e. codes ", " ++ entry_text e) xs) (codes ", " ++ entry_text y))
    ∙ ap (λ s. entries_text (x ∷ xs) ++ (s ++ entry_text y)) (sym (after_first (length xs)))

-- a step of a loop that appends the comma and the entry
pub entries_step : {A : Type 0} (f : A → Entry) (xs : List A) (i : ℕ) (x : A) (old before between after : List ℕ)
    → i < length xs → x ≡ get_or xs i x
    → before ≡ old ++ entries_text (map f (take i xs))
    → between ≡ before ++ comma_at i
    → after ≡ between ++ entry_text (f x)
    → after ≡ old ++ entries_text (map f (take (i + 1) xs))
entries_step f xs i x old before between after l e so_far comma item =
    let front = map f (take i xs) in
    let long : length front ≡ i = length-map (take i xs) f ∙ length-take-le i xs (omega arith) in
    item ∙ ap (λ v. v ++ entry_text (f x)) comma ∙ ap (λ v. (v ++ comma_at i) ++ entry_text (f x)) so_far
    ∙ append_assoc (old ++ entries_text front) (comma_at i) (entry_text (f x))
    ∙ append_assoc old (entries_text front) (comma_at i ++ entry_text (f x))
    ∙ (λ t. old ++ (entries_text front ++ (comma_at (sym long t) ++ entry_text (f (e t)))))
    ∙ ap (λ v. old ++ v) (sym (entries_push front (f (get_or xs i x))))
    ∙ ap (λ v. old ++ entries_text v) (sym (map_push f (take i xs) (get_or xs i x)))
    ∙ ap (λ v. old ++ entries_text (map f v)) (sym (take_more xs i x l))

-- a list that is in order by what f gives of its items
pub sorted_map : {X Y : Type 0} (f : X → Y) (less : Y → Y → Bool) (e : X) (xs : List X)
    → IsSortedBy (λ a b. less (f a) (f b)) xs → IsSortedBy less (map f xs)
sorted_map f less e xs up k d low within =
    let n : k + 1 < length xs = omega (arith, length-map xs f) in
    rw (get_or-map f xs (k + 1) e d n, get_or-map f xs k e d (omega arith)) (up k e low n)
