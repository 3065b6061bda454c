-- Lemmas on what the text of an item says.
use Rattle.std.proofs.Common.{◌≡◌, ℕ, ◌+◌, ◌<◌, Bool, true, false, List, [], ◌∷◌, ◌++◌, length, take, drop, get_or}
use Rattle.std.proofs.Common.{Option, Some, None, option_map, refl, sym, subst, ap, ◌∙◌, append-nil}
use Rattle.std.proofs.Common.{append_assoc, add-one, drop-cons}
use Rattle.std.specs.List.{join_with_byte}
use Rattle.std.specs.Prelude.{IfSome, MatchOption}
use Rattle.std.proofs.lemmas.List.{take-append-drop, take_more}
use Rattle.std.proofs.lemmas.Option.{IfSome_then}
use Rattle.pg_text.specs.Items.{EndsItem, NoItem, SaysItem, TakesItem, may_end, prepend, said_from, unless_null}
use Rattle.pg_text.specs.declared.items.Item.{Item}
use Rattle.pg_text.specs.declared.items.Items.{Items}
use Rattle.pg_text.specs.declared.items.Place.{Place}
use Rattle.pg_text.specs.declared.items.Place.TheVariants.{Start, Plain, Quoted, Closed, PlainEscaped, QuotedEscaped}

-- these bytes and then what is said, where that is something
abbrev pub joined : List ℕ → Option (List ℕ) → Option (List ℕ)
joined before said = option_map (λ rest. before ++ rest) said

-- an item's text that begins with these bytes says those, and then what is said from the place
abbrev pub SoFar : Items → Place → List ℕ → List ℕ → Type 0
SoFar items place front out =
    (more : List ℕ) → said_from items Start (front ++ more) ≡ joined out (said_from items place more)

joined_prepend : (out : List ℕ) (byte : ℕ) (said : Option (List ℕ))
    → joined out (prepend byte said) ≡ joined (out ++ byte ∷ []) said
joined_prepend out byte None = refl
joined_prepend out byte (Some text) = ap Some (sym (append_assoc out (byte ∷ []) text))

module _ (items : Items) (place next : Place) (bytes : List ℕ) (i : ℕ) (out new : List ℕ) (inside : i < length bytes)
    (so_far : SoFar items place (take i bytes) out) where
  goes_on : (more : List ℕ)
      → said_from items Start (take (i + 1) bytes ++ more)
      ≡ joined out (said_from items place (get_or bytes i 0 ∷ more))
  goes_on more =
      ap (λ v. said_from items Start (v ++ more)) (take_more bytes i 0 inside)
      ∙ ap (said_from items Start) (append_assoc (take i bytes) (get_or bytes i 0 ∷ []) more)
      ∙ so_far (get_or bytes i 0 ∷ more)

  -- one more byte, which the item has
  pub byte_taken : ((text : List ℕ) → said_from items place (get_or bytes i 0 ∷ text)
      ≡ prepend (get_or bytes i 0) (said_from items next text))
      → new ≡ out ++ get_or bytes i 0 ∷ [] → SoFar items next (take (i + 1) bytes) new
  byte_taken step new_is more =
      goes_on more ∙ ap (joined out) (step more) ∙ joined_prepend out (get_or bytes i 0) (said_from items next more)
      ∙ ap (λ v. joined v (said_from items next more)) (sym new_is)

  -- one more byte, which only changes the state
  pub byte_passed : ((text : List ℕ) → said_from items place (get_or bytes i 0 ∷ text) ≡ said_from items next text)
      → SoFar items next (take (i + 1) bytes) out
  byte_passed step more = goes_on more ∙ ap (joined out) (step more)

-- nothing more is said where an item may end
nothing_more : (items : Items) (place : Place) → may_end place ≡ true → said_from items place [] ≡ Some []
nothing_more items Start e = refl
nothing_more items Plain e = refl
nothing_more items Closed e = refl
nothing_more items Quoted e = cc
nothing_more items PlainEscaped e = cc
nothing_more items QuotedEscaped e = cc

pub said_whole : (items : Items) (place : Place) (front out : List ℕ) → SoFar items place front out
    → may_end place ≡ true → said_from items Start front ≡ Some out
said_whole items place front out so_far ends =
    ap (said_from items Start) (sym (append-nil front)) ∙ so_far []
    ∙ ap (joined out) (nothing_more items place ends) ∙ ap Some (append-nil out)

-- what is known of an item of that text
abbrev pub IsItem : Items → List ℕ → Bool → Item → Type 0
IsItem items front has_comma item =
    (item.has_comma ≡ has_comma)
    × ((said : List ℕ) → said_from items Start front ≡ Some said
    → SaysItem items front (unless_null item.is_null said))

-- the item that ends there was taken
pub item_taken : (items : Items) (place : Place) (front out old new : List ℕ) (has_comma : Bool)
    → SoFar items place front out → may_end place ≡ true → EndsItem has_comma front old new
    → (result : Option Item) → IfSome result (IsItem items front has_comma)
    → IfSome result (λ item. TakesItem items old new item.has_comma (unless_null item.is_null out))
item_taken items place front out old new has_comma so_far ends is result known =
    IfSome_then result known (λ item h. (
      front,
      h.1 out (said_whole items place front out so_far ends),
      subst (λ c. EndsItem c front old new) (sym h.0) is,
    ))

-- the item that was found
pub item_found : (items : Items) (old new out : List ℕ) (found : Option Item) (item : Item) → found ≡ Some item
    → MatchOption found (NoItem items old)
    (λ item. TakesItem items old new item.has_comma (unless_null item.is_null out))
    → TakesItem items old new item.has_comma (unless_null item.is_null out)
item_found items old new out found item e known =
    subst (λ found. MatchOption found (NoItem items old)
    (λ item. TakesItem items old new item.has_comma (unless_null item.is_null out))) e known

-- none was found
pub none_found : (items : Items) (old new out : List ℕ) (found : Option Item) → found ≡ None
    → MatchOption found (NoItem items old)
    (λ item. TakesItem items old new item.has_comma (unless_null item.is_null out)) → NoItem items old
none_found items old new out found e known =
    subst (λ found. MatchOption found (NoItem items old)
    (λ item. TakesItem items old new item.has_comma (unless_null item.is_null out))) e known

-- a list at one of its elements
pub parted : (bytes : List ℕ) (i byte : ℕ) → i < length bytes → get_or bytes i 0 ≡ byte
    → bytes ≡ take i bytes ++ byte ∷ drop (i + 1) bytes
parted bytes i byte within is =
    sym (take-append-drop i bytes)
    ∙ ap (λ v. take i bytes ++ v) (drop-cons bytes i 0 within
    ∙ ap (λ (n : ℕ). get_or bytes i 0 ∷ drop n bytes) (sym (add-one i)) ∙ ap (λ (b : ℕ). b ∷ drop (i + 1) bytes) is)

-- the items before the rest of a text, with commas between
abbrev pub Left : List ℕ → List (List ℕ) → List ℕ → Type 0
Left inside items rest = inside ≡ join_with_byte 44 (items ++ rest ∷ [])

parted_join : (xs : List (List ℕ)) (text rest : List ℕ)
    → join_with_byte 44 (xs ++ (text ++ 44 ∷ rest) ∷ []) ≡ join_with_byte 44 ((xs ++ text ∷ []) ++ rest ∷ [])
parted_join [] text rest = refl
parted_join (x ∷ []) text rest = ap (λ v. x ++ 44 ∷ v) (parted_join [] text rest)
parted_join (x ∷ z ∷ zs) text rest = ap (λ v. x ++ 44 ∷ v) (parted_join (z ∷ zs) text rest)

-- one more item, after which a comma came
pub left_next : (inside : List ℕ) (items : List (List ℕ)) (text old new : List ℕ) → Left inside items old
    → EndsItem true text old new → Left inside (items ++ text ∷ []) new
left_next inside items text old new left is =
    left ∙ ap (λ v. join_with_byte 44 (items ++ v ∷ [])) is ∙ parted_join items text new

-- the last item
pub left_last : (inside : List ℕ) (items : List (List ℕ)) (text old new : List ℕ) → Left inside items old
    → EndsItem false text old new → inside ≡ join_with_byte 44 (items ++ text ∷ [])
left_last inside items text old new left is = left ∙ ap (λ v. join_with_byte 44 (items ++ v ∷ [])) is.0
