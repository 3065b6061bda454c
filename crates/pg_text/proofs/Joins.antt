-- Lemmas on texts of items with a byte between.
use Rattle.std.proofs.Common.{◌≡◌, ℕ, suc, ◌+◌, ◌<◌, List, [], ◌∷◌, ◌++◌, length, get_or, take, map, refl, ap}
use Rattle.std.proofs.Common.{sym, ◌∙◌, append_assoc, arith}
use Rattle.std.specs.List.{AllZip, join_with_byte}
use Rattle.std.proofs.lemmas.Bool.{ne_eqb}
use Rattle.std.proofs.lemmas.List.{length-map, length-take-le, map_push, take_more}
use Rattle.pg_text.specs.Lists.{separator}

-- an item after another has the byte before it
some : (c n : ℕ) → separator c (suc n) ≡ c ∷ []
some c n = rw (ne_eqb (suc n) 0 (λ e. omega arith)) refl

-- one more text
pub join_push : (c : ℕ) (xs : List (List ℕ)) (y : List ℕ)
    → join_with_byte c (xs ++ y ∷ []) ≡ join_with_byte c xs ++ (separator c (length xs) ++ y)
join_push c [] y = refl
join_push c (x ∷ []) y = refl
join_push c (x ∷ z ∷ zs) y =
    ap (λ v. x ++ (c ∷ v)) (join_push c (z ∷ zs) y)
    ∙ sym (append_assoc x (c ∷ join_with_byte c (z ∷ zs)) (separator c (suc (length zs)) ++ y))
    ∙ ap (λ s. (x ++ (c ∷ join_with_byte c (z ∷ zs))) ++ (s ++ y))
    (some c (length zs) ∙ sym (some c (suc (length zs))))

-- one more item of which f gives the text
pub join_more : {A : Type 0} (f : A → List ℕ) (c : ℕ) (xs : List A) (i : ℕ) (x : A) → i < length xs
    → x ≡ get_or xs i x
    → join_with_byte c (map f (take (i + 1) xs)) ≡ join_with_byte c (map f (take i xs)) ++ (separator c i ++ f x)
join_more f c xs i x l e =
    let long : length (map f (take i xs)) ≡ i = length-map (take i xs) f ∙ length-take-le i xs (omega arith) in
    ap (λ v. join_with_byte c (map f v)) (take_more xs i x l)
    ∙ ap (join_with_byte c) (map_push f (take i xs) (get_or xs i x))
    ∙ join_push c (map f (take i xs)) (f (get_or xs i x))
    ∙ (λ t. join_with_byte c (map f (take i xs)) ++ (separator c (long t) ++ f (sym e t)))

-- a step of a loop that appends the separator and then the item
pub join_step : {A : Type 0} (f : A → List ℕ) (c : ℕ) (xs : List A) (i : ℕ) (x : A) (old before between after : List ℕ)
    → i < length xs → x ≡ get_or xs i x
    → before ≡ old ++ join_with_byte c (map f (take i xs))
    → between ≡ before ++ separator c i
    → after ≡ between ++ f x
    → after ≡ old ++ join_with_byte c (map f (take (i + 1) xs))
join_step f c xs i x old before between after l e so_far sep item =
    let parts = join_with_byte c (map f (take i xs)) in
    item ∙ ap (λ v. v ++ f x) sep ∙ ap (λ v. (v ++ separator c i) ++ f x) so_far
    ∙ append_assoc (old ++ parts) (separator c i) (f x)
    ∙ append_assoc old parts (separator c i ++ f x)
    ∙ ap (λ v. old ++ v) (sym (join_more f c xs i x l e))

-- one more item and its text, of which R holds
pub zip_push : {A B : Type 0} (R : A → B → Type 0) (xs : List A) (ys : List B) (x : A) (y : B) → AllZip R xs ys → R x y
    → AllZip R (xs ++ x ∷ []) (ys ++ y ∷ [])
zip_push R [] [] x y all here = (here, tt)
zip_push R [] (v ∷ vs) x y all here = absurd all
zip_push R (u ∷ us) [] x y all here = absurd all
zip_push R (u ∷ us) (v ∷ vs) x y all here = (all.0, zip_push R us vs x y all.1 here)

pub zip_more : {A B : Type 0} (R : A → B → Type 0) (xs : List A) (ys : List B) (i : ℕ) (x : A) (y : B) → i < length xs
    → x ≡ get_or xs i x → AllZip R (take i xs) ys → R x y → AllZip R (take (i + 1) xs) (ys ++ y ∷ [])
zip_more R xs ys i x y l e all here =
    rw (take_more xs i x l, ← e) (zip_push R (take i xs) ys x y all here)

-- a step of a loop that appends the separator and then an item's text
pub texts_step : (c : ℕ) (items : List (List ℕ)) (i : ℕ) (item : List ℕ) (old before between after : List ℕ)
    → length items ≡ i
    → before ≡ old ++ join_with_byte c items
    → between ≡ before ++ separator c i
    → after ≡ between ++ item
    → after ≡ old ++ join_with_byte c (items ++ item ∷ [])
texts_step c items i item old before between after long so_far sep last =
    let parts = join_with_byte c items in
    last ∙ ap (λ v. v ++ item) sep ∙ ap (λ v. (v ++ separator c i) ++ item) so_far
    ∙ append_assoc (old ++ parts) (separator c i) item
    ∙ append_assoc old parts (separator c i ++ item)
    ∙ ap (λ n. old ++ (parts ++ (separator c n ++ item))) (sym long)
    ∙ ap (λ v. old ++ v) (sym (join_push c items item))
