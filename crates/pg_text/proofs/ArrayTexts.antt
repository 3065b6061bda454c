-- Lemmas on the elements that an array's text says.
use Rattle.std.proofs.Common.{◌≡◌, ℕ, Bool, true, false, List, [], ◌∷◌, ◌++◌, Option, length, refl, sym, subst, ap, ◌∙◌}
use Rattle.std.proofs.lemmas.Bool.{eqb-true}
use Rattle.std.proofs.lemmas.List.{nil_from_length}
use Rattle.std.specs.Prelude.{◌==◌}
use Rattle.std.specs.List.{AllZip, join_with_byte}
use Rattle.pg_text.proofs.ItemTexts.{Left, left_last, left_next}
use Rattle.pg_text.proofs.Joins.{zip_push}
use Rattle.pg_text.specs.Items.{EndsItem, TakesItem, unless_null}
use Rattle.pg_text.specs.Lists.{SaysArray, SaysElement, SaysValue}
use Rattle.pg_text.specs.declared.items.Items.TheVariants.{OfArray}

module _ {A : Type 0} (says : List ℕ → A → Type 0) (inside : List ℕ) where
  -- the items before the rest say the elements
  abbrev pub Begun : List (Option A) → List ℕ → Type 0
  Begun elements rest = (items : List (List ℕ)) × AllZip (SaysElement says) items elements × Left inside items rest

  -- the items say the elements
  abbrev pub Whole : List (Option A) → Type 0
  Whole elements =
      (items : List (List ℕ)) × AllZip (SaysElement says) items elements × (inside ≡ join_with_byte 44 items)

  module _ (elements more : List (Option A)) (v : Option A) (old new out bytes : List ℕ) (is_null : Bool)
      (said : Option (List ℕ)) (begun : Begun elements old) (said_is : said ≡ unless_null is_null bytes)
      (bytes_are : bytes ≡ out) (element : SaysValue says said v) (pushed : more ≡ elements ++ v ∷ []) where
    -- the item that was taken says the element
    says_element : (has_comma : Bool) → (taken : TakesItem OfArray old new has_comma (unless_null is_null out))
        → SaysElement says taken.0 v
    says_element has_comma taken = (
      unless_null is_null out,
      taken.1,
      subst (λ said. SaysValue says said v) (said_is ∙ ap (unless_null is_null) bytes_are) element,
    )

    zipped : (text : List ℕ) → SaysElement says text v → AllZip (SaysElement says) (begun.0 ++ text ∷ []) more
    zipped text here =
        subst (λ elements. AllZip (SaysElement says) (begun.0 ++ text ∷ []) elements) (sym pushed)
        (zip_push (SaysElement says) begun.0 elements text v begun.1 here)

    -- one more element, after which a comma came
    pub begun_next : (has_comma : Bool) → TakesItem OfArray old new has_comma (unless_null is_null out)
        → has_comma ≡ true → Begun more new
    begun_next has_comma taken e = (
      begun.0 ++ taken.0 ∷ [],
      zipped taken.0 (says_element has_comma taken),
      left_next inside begun.0 taken.0 old new begun.2 (subst (λ c. EndsItem c taken.0 old new) e taken.2),
    )

    -- the last element
    pub begun_last : (has_comma : Bool) → TakesItem OfArray old new has_comma (unless_null is_null out)
        → has_comma ≡ false → Whole more
    begun_last has_comma taken e = (
      begun.0 ++ taken.0 ∷ [],
      zipped taken.0 (says_element has_comma taken),
      left_last inside begun.0 taken.0 old new begun.2 (subst (λ c. EndsItem c taken.0 old new) e taken.2),
    )

  -- there is none before the first
  pub begun_none : (elements : List (Option A)) → elements ≡ [] → Begun elements inside
  begun_none elements none = ([], subst (λ elements. AllZip (SaysElement says) [] elements) (sym none) tt, refl)

  -- they are those of the text in braces
  pub says_array : (text : List ℕ) (elements : List (Option A)) → text ≡ 123 ∷ (inside ++ 125 ∷ []) → Whole elements
      → SaysArray says text elements
  says_array text elements is whole = (whole.0, is ∙ ap (λ v. 123 ∷ (v ++ 125 ∷ [])) whole.2, whole.1)

  -- there is no item
  pub says_nothing : (elements : List (Option A)) → elements ≡ [] → (length inside == 0) ≡ true → Whole elements
  says_nothing elements none empty = (
    [],
    subst (λ elements. AllZip (SaysElement says) [] elements) (sym none) tt,
    nil_from_length inside (eqb-true (length inside) 0 empty),
  )
