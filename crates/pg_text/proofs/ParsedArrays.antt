-- Lemmas on arrays each element of which is parsed.
use Rattle.std.proofs.Common.{◌≡◌, ◌==◌, ◌+◌, ◌≤◌, ℕ, Bool, true, false, List, [], ◌∷◌, ◌++◌, Option, Some}
use Rattle.std.proofs.Common.{None, length, refl, sym, subst, ap, ◌∙◌, arith, length-append}
use Rattle.std.specs.Prelude.{IfSome}
use Rattle.std.specs.Str.{IsUtf8}
use Rattle.std.specs.List.{All, join_with_byte}
use Rattle.std.proofs.lemmas.List.{append_cancel_right}
use Rattle.std.proofs.lemmas.List.Elements.{All-head, All-tail}
use Rattle.std.proofs.lemmas.Option.{IfSome_then}
use Rattle.pg_text.proofs.ItemEnds.{same_item, whole_of}
use Rattle.pg_text.specs.Items.{EndsItem, NoItem, SaysItem, TakesItem, unless_null}
use Rattle.pg_text.specs.Lists.{ParsesArray, ParsesElement}
use Rattle.pg_text.specs.declared.items.Items.{Items}
use Rattle.pg_text.specs.declared.items.Items.TheVariants.{OfArray}

-- an item stands for one thing
same_said : (items : Items) (text : List ℕ) (a b : Option (List ℕ)) → SaysItem items text a → SaysItem items text b
    → a ≡ b
same_said items text None None h k = refl
same_said items text None (Some s) h k = absurd cc
same_said items text (Some s) None h k = absurd cc
same_said items text (Some s) (Some t) h k = sym h.2 ∙ k.2

-- a part of a text that was taken with a comma is shorter
pub shorter : (old new : List ℕ) (has_comma : Bool) (said : Option (List ℕ)) → TakesItem OfArray old new has_comma said
    → has_comma ≡ true → length new + 1 ≤ length old
shorter old new true said taken e =
    omega (arith, ap length taken.2, length-append taken.0 (44 ∷ new))
shorter old new false said taken e = absurd cc

pub within_braces : (text inside : List ℕ) → text ≡ 123 ∷ (inside ++ 125 ∷ []) → length inside + 2 ≤ length text
within_braces text inside is = omega (arith, ap length is, length-append inside (125 ∷ []))

module _ (parses : List ℕ → Type 0) where
  -- the text is items that are parsed, with commas between
  abbrev pub Parsed : List ℕ → Type 0
  Parsed rest =
      (item : List ℕ)
      × (items : List (List ℕ))
      × (rest ≡ join_with_byte 44 (item ∷ items))
      × All (ParsesElement parses) (item ∷ items)

  abbrev IsParsed : List ℕ → Type 0
  IsParsed text = IsUtf8 text × parses text

  inside_parsed : (inside : List ℕ) (items : List (List ℕ)) → inside ≡ join_with_byte 44 items
      → (length inside == 0) ≡ false → All (ParsesElement parses) items → Parsed inside
  inside_parsed inside [] is some all =
      let empty : (length inside == 0) ≡ true = ap (λ text. length text == 0) is in absurd cc
  inside_parsed inside (item ∷ items) is some all = (item, items, is, all)

  -- what is between the braces
  pub between_parsed : (text inside : List ℕ) → text ≡ 123 ∷ (inside ++ 125 ∷ []) → (length inside == 0) ≡ false
      → ParsesArray parses text → Parsed inside
  between_parsed text inside is some parsed =
      let both : 123 ∷ (inside ++ 125 ∷ []) ≡ 123 ∷ (join_with_byte 44 parsed.0 ++ 125 ∷ []) = sym is ∙ parsed.1 in
      inside_parsed inside parsed.0
      (append_cancel_right inside (join_with_byte 44 parsed.0) (125 ∷ []) (cc)) some parsed.2

  -- whether an item follows the first
  abbrev has_more : List (List ℕ) → Bool
  has_more [] = false
  has_more (i ∷ items) = true

  first_ends : (rest item : List ℕ) (items : List (List ℕ)) → rest ≡ join_with_byte 44 (item ∷ items)
      → EndsItem (has_more items) item rest (join_with_byte 44 items)
  first_ends rest item [] is = (is, refl)
  first_ends rest item (i ∷ items) is = is

  -- an item is there
  pub some_item : (rest : List ℕ) → Parsed rest → NoItem OfArray rest → ⊥
  some_item rest parsed none =
      let own = All-head (ParsesElement parses) parsed.0 parsed.1 parsed.3 in
      none (join_with_byte 44 parsed.1) (has_more parsed.1) own.0
      (parsed.0, own.1, first_ends rest parsed.0 parsed.1 parsed.2)

  module _ (old new out : List ℕ) (has_comma is_null : Bool)
      (taken : TakesItem OfArray old new has_comma (unless_null is_null out)) where
    same_first : (parsed : Parsed old)
        → (parsed.0 ≡ taken.0) × (has_more parsed.1 ≡ has_comma) × (join_with_byte 44 parsed.1 ≡ new)
    same_first parsed =
        let own = All-head (ParsesElement parses) parsed.0 parsed.1 parsed.3 in
        same_item OfArray old parsed.0 taken.0 (whole_of OfArray parsed.0 own.0 own.1)
        (whole_of OfArray taken.0 (unless_null is_null out) taken.1) (has_more parsed.1) has_comma
        (join_with_byte 44 parsed.1) new (first_ends old parsed.0 parsed.1 parsed.2) taken.2

    item_parsed : Parsed old → IfSome (unless_null is_null out) IsParsed
    item_parsed parsed =
        let own = All-head (ParsesElement parses) parsed.0 parsed.1 parsed.3 in
        let says = subst (λ text. SaysItem OfArray text own.0) (same_first parsed).0 own.1 in
        subst (λ said. IfSome said IsParsed)
        (same_said OfArray taken.0 own.0 (unless_null is_null out) says taken.1) own.2

    -- its bytes are UTF-8
    pub item_utf8 : Parsed old → is_null ≡ false → IsUtf8 out
    item_utf8 parsed e = (subst (λ null. IfSome (unless_null null out) IsParsed) e (item_parsed parsed)).0

    -- its text is parsed
    pub value_parsed : (text : Option (List ℕ)) (bytes : List ℕ) → text ≡ unless_null is_null bytes → bytes ≡ out
        → Parsed old → IfSome text parses
    value_parsed text bytes is bytes_are parsed =
        subst (λ said. IfSome said parses) (sym (is ∙ ap (unless_null is_null) bytes_are))
        (IfSome_then (unless_null is_null out) (item_parsed parsed) (λ text own. own.1))

    more_parsed : (items : List (List ℕ)) → has_more items ≡ true → All (ParsesElement parses) items
        → join_with_byte 44 items ≡ new → Parsed new
    more_parsed [] e all is = absurd cc
    more_parsed (item ∷ items) e all is = (item, items, sym is, all)

    -- after a comma comes another
    pub rest_parsed : has_comma ≡ true → Parsed old → Parsed new
    rest_parsed e parsed =
        let same = same_first parsed in
        more_parsed parsed.1 (same.1 ∙ e) (All-tail (ParsesElement parses) parsed.0 parsed.1 parsed.3) same.2
