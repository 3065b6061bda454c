-- The names of fields, compared one after another.
use Rattle.std.proofs.Common.{◌≡◌, ◌<◌, ◌≤◌, ◌+◌, ◌==◌, ◌&&◌, ℕ, suc, List, [], ◌∷◌, length, drop, get_or, map, Bool}
use Rattle.std.proofs.Common.{true}
use Rattle.std.proofs.Common.{false, not, Bor, refl, sym, ap, ap₂, ◌∙◌, arith}
use Rattle.std.specs.Cmp.Lexicographic.{pointwise}
use Rattle.std.proofs.Math.Bool.{and-false}
use Rattle.std.proofs.lemmas.Bool.{not-false, not-true}
use Rattle.std.proofs.lemmas.List.{drop_all, drop_more}
use Rattle.pg_types.specs.Content.{field_name, fields_content}
use Rattle.pg_types.specs.declared.types.kind.Field.{Field}
use Rattle.postgres_types.specs.Composites.{are_named}

-- the names are those of the fields
abbrev pub name_fields : List (Bor (List ℕ)) → List Field → Bool
name_fields names fs = are_named (map (λ name. name.now) names) (fields_content fs)

-- other than as many names are not
pub other_number : (names : List (Bor (List ℕ))) (fs : List Field) → (length names ≡ length fs → ⊥)
    → false ≡ name_fields names fs
other_number [] [] h = absurd (h refl)
other_number [] (f ∷ fs) h = refl
other_number (n ∷ names) [] h = refl
other_number (n ∷ names) (f ∷ fs) h =
    sym (and-false (pointwise ◌==◌ (field_name f) n.now))
    ∙ ap (λ t. pointwise ◌==◌ (field_name f) n.now && t) (other_number names fs (λ e. h (ap suc e)))

module _ (names : List (Bor (List ℕ))) (fs : List Field) (i : ℕ) where
  -- what is left is compared from the place on
  abbrev pub left : Bool
  left = name_fields (drop i names) (drop i fs)

  -- nothing is left
  pub none_left : length names ≡ length fs → length names ≤ i → left ≡ true
  none_left same end = ap₂ name_fields (drop_all i names end) (drop_all i fs (omega (arith, same, end)))

  module _ (n : Bor (List ℕ)) (f : Field) (own : List ℕ) (in_names : i < length names) (same : length names ≡ length fs)
      (f_is : f ≡ get_or fs i f) (own_is : own ≡ field_name f) where
    split : left ≡ (pointwise ◌==◌ own (get_or names i n).now && name_fields (drop (i + 1) names) (drop (i + 1) fs))
    split =
        let in_fields : i < length fs = omega (arith, in_names, same) in
        ap₂ name_fields (drop_more names i n in_names) (drop_more fs i f in_fields)
        ∙ ap (λ g. pointwise ◌==◌ (field_name g) (get_or names i n).now
        && name_fields (drop (i + 1) names) (drop (i + 1) fs)) (sym f_is)
        ∙ ap (λ s. pointwise ◌==◌ s (get_or names i n).now && name_fields (drop (i + 1) names) (drop (i + 1) fs))
        (sym own_is)

    -- the names at the place are the same, and the others are left
    pub same_name : not (pointwise ◌==◌ own (get_or names i n).now) ≡ false
        → left ≡ name_fields (drop (i + 1) names) (drop (i + 1) fs)
    same_name e = split ∙ ap (λ t. t && name_fields (drop (i + 1) names) (drop (i + 1) fs)) (not-false _ e)

    -- they differ
    pub other_name : not (pointwise ◌==◌ own (get_or names i n).now) ≡ true → left ≡ false
    other_name e = split ∙ ap (λ t. t && name_fields (drop (i + 1) names) (drop (i + 1) fs)) (not-true _ e)
