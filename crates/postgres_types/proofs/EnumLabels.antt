-- Lemmas on the labels of enumerated types.
use Rattle.std.proofs.Common.{◌≡◌, ℕ, ◌+◌, ◌<◌, ◌≤◌, List, [], ◌∷◌, Bool, true, false, ◌||◌, ◌&&◌, ◌==◌, Bor, Option}
use Rattle.std.proofs.Common.{Some, None, IfSome, IsUtf8, map, length, drop, get_or, slice_get, refl, ◌∙◌, ap, cond}
use Rattle.std.specs.Cmp.Lexicographic.{pointwise}
use Rattle.std.proofs.lemmas.List.{drop_all, drop_more}
use Rattle.std.proofs.lemmas.Option.{slice_get-get_or, slice_get-map}
use Rattle.std.specs.Option.{option_map}
use Rattle.std.proofs.lemmas.Str.{is_utf8-from_IsUtf8}
use Rattle.std.specs.List.{list_all, list_any}
use Rattle.std.specs.Str.{is_utf8}
use Rattle.pg_types.specs.Laws.Equality.{bytes-same}
use Rattle.pg_types.specs.Faults.{Refusal, utf8}
use Rattle.pg_base.specs.Texts.{first_fault_text}
use Rattle.postgres_types.specs.Enums.{first_fault_label, has_label, no_label}

-- a test finds what it finds in another view of the elements
pub any_of_map : {A B : Type 0} (view : A → B) (test : B → Bool) (xs : List A)
    → list_any test (map view xs) ≡ list_any (λ x. test (view x)) xs
any_of_map view test [] = refl
any_of_map view test (x ∷ xs) = ap (λ t. test (view x) || t) (any_of_map view test xs)

-- and holds of all where it does of all in another view
pub all_of_map : {A B : Type 0} (view : A → B) (test : B → Bool) (xs : List A)
    → list_all test (map view xs) ≡ list_all (λ x. test (view x)) xs
all_of_map view test [] = refl
all_of_map view test (x ∷ xs) = ap (λ t. test (view x) && t) (all_of_map view test xs)

-- the labels' bytes
abbrev pub texts_of : List (Bor (List ℕ)) → List (List ℕ)
texts_of labels = map (λ label. label.now) labels

module _ (labels : List (Bor (List ℕ))) (b : List ℕ) (i : ℕ) where
  -- whether a label from the place on is the bytes
  abbrev pub left : Bool
  left = has_label (texts_of (drop i labels)) b

  -- nothing is left
  pub none_left : length labels ≤ i → left ≡ false
  none_left end = ap (λ others. has_label (texts_of others) b) (drop_all i labels end)

  module _ (label : Bor (List ℕ)) (within : i < length labels) where
    -- the label at the place is not the bytes, and the others are left
    pub other_label : pointwise ◌==◌ (get_or labels i label).now b ≡ false
        → left ≡ has_label (texts_of (drop (i + 1) labels)) b
    other_label e = ap (λ others. has_label (texts_of others) b) (drop_more labels i label within)
        ∙ ap (λ t. t || has_label (texts_of (drop (i + 1) labels)) b) e

    -- the label at the place is the bytes
    pub found_at : pointwise ◌==◌ (get_or labels i label).now b ≡ true → slice_get (texts_of labels) i ≡ Some b
    found_at e = slice_get-map (λ other. other.now) labels i
        ∙ ap (option_map (λ other. other.now)) (slice_get-get_or labels i label within)
        ∙ ap Some (bytes-same (get_or labels i label).now b e)

-- a text that is no label is refused with that fault
pub not_a_label : (labels : List (List ℕ)) (b : List ℕ) → IsUtf8 b → has_label labels b ≡ false
    → first_fault_label labels b ≡ Some no_label
not_a_label labels b text none = rw (none, is_utf8-from_IsUtf8 b text) refl

both_false : (utf8_test : Bool) (r : Refusal) → cond utf8_test None (Some utf8) ≡ Some r
    → Some (cond utf8_test no_label utf8) ≡ Some r
both_false true r h = let no : ⊥ = cc in absurd no
both_false false r h = h

-- bytes that are no label, and are refused as a text, are refused with the same fault
pub not_a_text : (labels : List (List ℕ)) (b : List ℕ) (told : Option Refusal) → has_label labels b ≡ false
    → IfSome told (λ r. first_fault_text false b ≡ Some r) → IfSome told (λ r. first_fault_label labels b ≡ Some r)
not_a_text labels b None none h = tt
not_a_text labels b (Some r) none h = rw none (both_false (is_utf8 b) r h)
