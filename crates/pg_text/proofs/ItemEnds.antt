-- Lemmas on where items end: no two items are at the front of a text.
use Rattle.std.proofs.Common.{◌≡◌, ◌⊎◌, ◌≤◌, ◌==◌, ◌||◌, ℕ, Bool, true, false, cond, List, [], ◌∷◌, ◌++◌, length, map}
use Rattle.std.proofs.Common.{Option, Some, None, refl, sym, subst, ap, ◌∙◌, append_assoc, append-nil}
use Rattle.std.proofs.Common.{arith, tests, inl, inr, ⊎_elim}
use Rattle.std.specs.Prelude.{MatchOption, codes}
use Rattle.std.proofs.lemmas.Bool.{eqb-true}
use Rattle.std.proofs.lemmas.List.{nil_from_length}
use Rattle.std.specs.Char.{to_ascii_lowercase}
use Rattle.pg_types.specs.Laws.Equality.{bytes-same}
use Rattle.pg_text.proofs.ItemTexts.{IsItem, SoFar, item_taken, joined, said_whole}
use Rattle.pg_text.specs.Items.{EndsItem, NoItem, SaysItem, TakesItem, may_end, needs_quotes, prepend, said_from}
use Rattle.pg_text.specs.Items.{unless_null, without_quotes}
use Rattle.pg_text.specs.declared.items.Item.{Item}
use Rattle.pg_text.specs.declared.items.Items.{Items}
use Rattle.pg_text.specs.declared.items.Items.TheVariants.{OfArray, OfRecord}
use Rattle.pg_text.specs.declared.items.Place.{Place}
use Rattle.pg_text.specs.declared.items.Place.TheVariants.{Start, Plain, Quoted, Closed, PlainEscaped, QuotedEscaped}

-- the other is nothing where the first is something
abbrev Closes : Option (List ℕ) → Option (List ℕ) → Type 0
Closes said other = (s : List ℕ) → said ≡ Some s → other ≡ None

closes_none : (other : Option (List ℕ)) → Closes None other
closes_none other = λ s e. absurd cc

closes_either : (test : Bool) (a b c d : Option (List ℕ)) → Closes a b → Closes c d
    → Closes (cond test a c) (cond test b d)
closes_either true a b c d first other = first
closes_either false a b c d first other = other

closes_prepend : (byte : ℕ) (a b : Option (List ℕ)) → Closes a b → Closes (prepend byte a) (prepend byte b)
closes_prepend byte None b h = λ s e. absurd cc
closes_prepend byte (Some t) b h = λ s e. ap (prepend byte) (h t refl)

closes_outside : (items : Items) (byte : ℕ) (a b c d e f : Option (List ℕ)) → Closes a b → Closes c d → Closes e f
    → Closes (without_quotes items byte a c e) (without_quotes items byte b d f)
closes_outside items byte a b c d e f quoted escaped plain =
    closes_either (byte == 34) a b _ _ quoted (closes_either (byte == 92) c d _ _ escaped
    (closes_either (byte == 44 || needs_quotes items byte) None None _ _ (closes_none None)
    (closes_prepend byte e f plain)))

-- an item does not go on over the comma after it
closing : (items : Items) (place : Place) (text more : List ℕ)
    → Closes (said_from items place text) (said_from items place (text ++ 44 ∷ more))
closing items Start [] more = λ s e. refl
closing OfArray Plain [] more = λ s e. refl
closing OfRecord Plain [] more = λ s e. refl
closing OfArray Closed [] more = λ s e. refl
closing OfRecord Closed [] more = λ s e. refl
closing items Quoted [] more = closes_none _
closing items PlainEscaped [] more = closes_none _
closing items QuotedEscaped [] more = closes_none _
closing items PlainEscaped (b ∷ text) more = closes_prepend b _ _ (closing items Plain text more)
closing items QuotedEscaped (b ∷ text) more = closes_prepend b _ _ (closing items Quoted text more)
closing items Quoted (b ∷ text) more =
    closes_either (b == 34) _ _ _ _ (closing items Closed text more)
    (closes_either (b == 92) _ _ _ _ (closing items QuotedEscaped text more)
    (closes_prepend b _ _ (closing items Quoted text more)))
closing items Start (b ∷ text) more =
    closes_outside items b _ _ _ _ _ _ (closing items Quoted text more) (closing items PlainEscaped text more)
    (closing items Plain text more)
closing OfArray Plain (b ∷ text) more =
    closes_outside OfArray b _ _ _ _ _ _ (closes_none None) (closing OfArray PlainEscaped text more)
    (closing OfArray Plain text more)
closing OfRecord Plain (b ∷ text) more =
    closes_outside OfRecord b _ _ _ _ _ _ (closing OfRecord Quoted text more) (closing OfRecord PlainEscaped text more)
    (closing OfRecord Plain text more)
closing OfArray Closed (b ∷ text) more = closes_none _
closing OfRecord Closed (b ∷ text) more =
    closes_outside OfRecord b _ _ _ _ _ _ (closes_prepend b _ _ (closing OfRecord Quoted text more))
    (closing OfRecord PlainEscaped text more) (closing OfRecord Plain text more)

-- the text is that of an item, unless it is empty
abbrev Whole : Items → List ℕ → Type 0
Whole items text = (said : List ℕ) × (said_from items Start text ≡ Some said)

no_longer : (items : Items) (text other more : List ℕ) → Whole items text → Whole items other
    → other ≡ text ++ 44 ∷ more → ⊥
no_longer items text other more whole longer is =
    let none : said_from items Start (text ++ 44 ∷ more) ≡ None = closing items Start text more whole.0 whole.1 in
    let both : None ≡ Some longer.0 = sym none ∙ ap (said_from items Start) (sym is) ∙ longer.1 in
    absurd cc

-- each state goes on to the end of an item
goes_on : (items : Items) (place : Place) → (more said : List ℕ) × (said_from items place more ≡ Some said)
goes_on items Start = ([], [], refl)
goes_on items Plain = ([], [], refl)
goes_on items Closed = ([], [], refl)
goes_on items Quoted = (34 ∷ [], [], refl)
goes_on items PlainEscaped = (34 ∷ [], 34 ∷ [], refl)
goes_on items QuotedEscaped = (34 ∷ 34 ∷ [], 34 ∷ [], refl)

-- how two lists begin that are one with what follows each: alike, or one with the other
abbrev pub Meet : List ℕ → List ℕ → List ℕ → List ℕ → Type 0
Meet s t x y =
    ((s ≡ t) × (x ≡ y))
    ⊎ ((m : List ℕ) × (c : ℕ) × (t ≡ s ++ c ∷ m) × (x ≡ c ∷ (m ++ y)))
    ⊎ ((m : List ℕ) × (c : ℕ) × (s ≡ t ++ c ∷ m) × (y ≡ c ∷ (m ++ x)))

meet_more : (a b : ℕ) (s t x y : List ℕ) → a ≡ b → Meet s t x y → Meet (a ∷ s) (b ∷ t) x y
meet_more a b s t x y e (inl m) = inl ((λ i. e i ∷ m.0 i), m.1)
meet_more a b s t x y e (inr (inl m)) = inr (inl (m.0, m.1, (λ i. sym e i ∷ m.2 i), m.3))
meet_more a b s t x y e (inr (inr m)) = inr (inr (m.0, m.1, (λ i. e i ∷ m.2 i), m.3))

meet : (s t x y : List ℕ) → s ++ x ≡ t ++ y → Meet s t x y
meet [] [] x y e = inl (refl, e)
meet [] (b ∷ t) x y e = inr (inl (t, b, refl, e))
meet (a ∷ s) [] x y e = inr (inr (s, a, refl, sym e))
meet (a ∷ s) (b ∷ t) x y e =
    let here : a ≡ b = cc in
    let rest : s ++ x ≡ t ++ y = cc in
    meet_more a b s t x y here (meet s t x y rest)

-- the letters of a word stand for themselves
abbrev Letters : List ℕ → Type 0
Letters [] = Unit {0}
Letters (k ∷ ks) = (97 ≤ k) × (k ≤ 122) × Letters ks

abbrev Kept : ℕ → Type 0
Kept b = ((b == 34) ≡ false) × ((b == 92) ≡ false) × ((b == 44 || needs_quotes OfArray b) ≡ false)

kept : (b k : ℕ) → to_ascii_lowercase b ≡ k → 97 ≤ k → k ≤ 122 → Kept b
kept b k e low high = search (tests, arith)

word_plain : (text word : List ℕ) → map to_ascii_lowercase text ≡ word → Letters word
    → said_from OfArray Plain text ≡ Some text
word_plain [] word e l = refl
word_plain (b ∷ t) [] e l = absurd cc
word_plain (b ∷ t) (k ∷ ks) e l =
    let here : to_ascii_lowercase b ≡ k = cc in
    let rest : map to_ascii_lowercase t ≡ ks = cc in
    let own = kept b k here l.0 l.1 in
    rw (own.0, own.1, own.2) (ap (prepend b) (word_plain t ks rest l.2))

word_said : (text word : List ℕ) → map to_ascii_lowercase text ≡ word → Letters word
    → said_from OfArray Start text ≡ Some text
word_said [] word e l = refl
word_said (b ∷ t) [] e l = absurd cc
word_said (b ∷ t) (k ∷ ks) e l =
    let here : to_ascii_lowercase b ≡ k = cc in
    let rest : map to_ascii_lowercase t ≡ ks = cc in
    let own = kept b k here l.0 l.1 in
    rw (own.0, own.1, own.2) (ap (prepend b) (word_plain t ks rest l.2))

null_letters : Letters (codes "null")
null_letters = (
  omega arith,
  omega arith,
  (omega arith, omega arith, (omega arith, omega arith, (omega arith, omega arith, tt))),
)

-- what says something is whole
pub whole_of : (items : Items) (text : List ℕ) (said : Option (List ℕ)) → SaysItem items text said → Whole items text
whole_of items text (Some said) h = (said, h.2)
whole_of OfRecord text None h = ([], ap (said_from OfRecord Start) (nil_from_length text (eqb-true (length text) 0 h)))
whole_of OfArray text None h =
    (text, word_said text (codes "null") (bytes-same (map to_ascii_lowercase text) (codes "null") h) null_letters)

-- an item may end in the state, or nothing is said at the end of the text
end_or_none : (items : Items) (place : Place) → (may_end place ≡ true) ⊎ (said_from items place [] ≡ None)
end_or_none items Start = inl refl
end_or_none items Plain = inl refl
end_or_none items Closed = inl refl
end_or_none items Quoted = inr refl
end_or_none items PlainEscaped = inr refl
end_or_none items QuotedEscaped = inr refl

module _ (items : Items) (old f t : List ℕ) (whole : Whole items f) (other : Whole items t) where
  met : (new rest : List ℕ) → Meet f t (44 ∷ new) (44 ∷ rest) → (f ≡ t) × (new ≡ rest)
  met new rest (inl same) = (same.0, let e : 44 ∷ new ≡ 44 ∷ rest = same.1 in cc)
  met new rest (inr (inl longer)) =
      let here : longer.1 ≡ 44 = let e : 44 ∷ new ≡ longer.1 ∷ (longer.0 ++ 44 ∷ rest) = longer.3 in cc in
      absurd (no_longer items f t longer.0 whole other (longer.2 ∙ ap (λ (b : ℕ). f ++ b ∷ longer.0) here))
  met new rest (inr (inr shorter)) =
      let here : shorter.1 ≡ 44 = let e : 44 ∷ rest ≡ shorter.1 ∷ (shorter.0 ++ 44 ∷ new) = shorter.3 in cc in
      absurd (no_longer items t f shorter.0 other whole (shorter.2 ∙ ap (λ (b : ℕ). t ++ b ∷ shorter.0) here))

  -- two items at the front are the same
  pub same_item : (has_comma comma : Bool) (new rest : List ℕ) → EndsItem has_comma f old new
      → EndsItem comma t old rest
      → (f ≡ t) × (has_comma ≡ comma) × (new ≡ rest)
  same_item true true new rest a b =
      let m = met new rest (meet f t (44 ∷ new) (44 ∷ rest) (sym a ∙ b)) in (m.0, refl, m.1)
  same_item true false new rest a b = absurd (no_longer items f t new whole other (sym b.0 ∙ a))
  same_item false true new rest a b = absurd (no_longer items t f rest other whole (sym a.0 ∙ b))
  same_item false false new rest a b = (sym a.0 ∙ b.0, refl, a.1 ∙ sym b.1)

module _ (items : Items) (place : Place) (front out : List ℕ) (so_far : SoFar items place front out) where
  -- no item ended before
  passed : (text more : List ℕ) → Whole items text → front ≡ text ++ 44 ∷ more → ⊥
  passed text more whole is =
      let end = goes_on items place in
      let longer : Whole items (front ++ end.0) = (out ++ end.1, so_far end.0 ∙ ap (joined out) end.2) in
      no_longer items text (front ++ end.0) (more ++ end.0) whole longer
      (ap (λ v. v ++ end.0) is ∙ append_assoc text (44 ∷ more) end.0)

  nothing_said : (rest text : List ℕ) → said_from items place rest ≡ None → text ≡ front ++ rest → Whole items text → ⊥
  nothing_said rest text none is whole =
      let both : Some whole.0 ≡ None =
      sym whole.1 ∙ ap (said_from items Start) is ∙ so_far rest ∙ ap (joined out) none in
      absurd cc

  -- what no state allows to follow ends an item only where an item may end
  ended : Whole items front → may_end place ≡ true
  ended whole =
      ⊎_elim (λ e. e) (λ none. absurd (nothing_said [] front none (sym (append-nil front)) whole))
      (end_or_none items place)

  pub ends_within : (old : List ℕ) → old ≡ front → may_end place ≡ false → NoItem items old
  ends_within old is within rest true said taken =
      passed taken.0 rest (whole_of items taken.0 said taken.1) (sym is ∙ taken.2)
  ends_within old is within rest false said taken =
      let whole : Whole items front =
      subst (Whole items) (sym taken.2.0 ∙ is) (whole_of items taken.0 said taken.1) in
      let both : true ≡ false = sym (ended whole) ∙ within in
      absurd cc

  refused_at : (byte : ℕ) (rest text new : List ℕ) → ((more : List ℕ) → said_from items place (byte ∷ more) ≡ None)
      → (byte ≡ 44 → may_end place ≡ true → ⊥) → Whole items text → Meet front text (byte ∷ rest) (44 ∷ new) → ⊥
  refused_at byte rest text new none stays whole (inl same) =
      let comma : byte ≡ 44 = let e : byte ∷ rest ≡ 44 ∷ new = same.1 in cc in
      stays comma (ended (subst (Whole items) (sym same.0) whole))
  refused_at byte rest text new none stays whole (inr (inl longer)) =
      let here : longer.1 ≡ byte = let e : byte ∷ rest ≡ longer.1 ∷ (longer.0 ++ 44 ∷ new) = longer.3 in cc in
      nothing_said (byte ∷ longer.0) text (none longer.0)
      (longer.2 ∙ ap (λ (b : ℕ). front ++ b ∷ longer.0) here) whole
  refused_at byte rest text new none stays whole (inr (inr shorter)) =
      let here : shorter.1 ≡ 44 =
      let e : 44 ∷ new ≡ shorter.1 ∷ (shorter.0 ++ byte ∷ rest) = shorter.3 in cc in
      passed text shorter.0 whole (shorter.2 ∙ ap (λ (b : ℕ). text ++ b ∷ shorter.0) here)

  pub refused : (byte : ℕ) (rest old : List ℕ) → old ≡ front ++ byte ∷ rest
      → ((more : List ℕ) → said_from items place (byte ∷ more) ≡ None)
      → (byte ≡ 44 → may_end place ≡ true → ⊥) → NoItem items old
  refused byte rest old is none stays new true said taken =
      refused_at byte rest taken.0 new none stays (whole_of items taken.0 said taken.1)
      (meet front taken.0 (byte ∷ rest) (44 ∷ new) (sym is ∙ taken.2))
  refused byte rest old is none stays new false said taken =
      nothing_said (byte ∷ rest) taken.0 (none rest) (sym taken.2.0 ∙ is) (whole_of items taken.0 said taken.1)

  -- the item that ends there was taken, and no item is there where it stands for nothing
  pub item_ends : (old new : List ℕ) (has_comma : Bool) → may_end place ≡ true → EndsItem has_comma front old new
      → (result : Option Item)
      → MatchOption result ((said : Option (List ℕ)) → SaysItem items front said → ⊥) (IsItem items front has_comma)
      → MatchOption result (NoItem items old)
      (λ item. TakesItem items old new item.has_comma (unless_null item.is_null out))
  item_ends old new has_comma ends is (Some item) known =
      item_taken items place front out old new has_comma so_far ends is (Some item) known
  item_ends old new has_comma ends is None none =
      λ rest comma said taken.
      let same = same_item items old front taken.0 (out, said_whole items place front out so_far ends)
      (whole_of items taken.0 said taken.1) has_comma comma new rest is taken.2 in
      none said (subst (λ text. SaysItem items text said) (sym same.0) taken.1)
