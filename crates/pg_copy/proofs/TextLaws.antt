-- Laws of the fields of a line and of the texts that they say.
use Rattle.std.proofs.Common.{◌≡◌, ℕ, ◌+◌, ◌<◌, Bool, true, false, not, List, [], ◌∷◌, ◌++◌, length, drop}
use Rattle.std.proofs.Common.{get_or, Option}
use Rattle.std.proofs.Common.{Some, None, option_map, refl, sym, ap, ◌∙◌, append_assoc, append-nil, arith, add-one}
use Rattle.std.proofs.Common.{cond, drop-cons, if◌then◌else◌}
use Rattle.std.specs.Prelude.{◌==◌, ◌||◌, is_some, suc}
use Rattle.std.proofs.lemmas.Bool.Decides.{nat_tests}
use Rattle.std.specs.List.{AllByRecursion, onto_first}
use Rattle.std.specs.Str.{bytes_eq}
use Rattle.std.proofs.lemmas.Slice.Eq.{bytes_eq-Decides}
use Rattle.streams.specs.Lines.{Lacks}
use Rattle.memchr.specs.Find.{IsFirstByte, is_byte2}
use Rattle.pg_copy.specs.TextLines.{LacksEscapes, Says, fields_of}
use Rattle.pg_copy.specs.TextLines.{Unescapes, is_refused_byte, letter_byte, prepend, unescaped, unescaped_after}
use Rattle.std.proofs.lemmas.Bool.{or_parts, false_from_ne_true}

-- these bytes and then a text, where that is one
abbrev joined : List ℕ → Option (List ℕ) → Option (List ℕ)
joined said text = option_map (λ rest. said ++ rest) text

-- what was said of the first i bytes of a text was appended, and a backslash is open or none
abbrev pub SoFar : List ℕ → List ℕ → List ℕ → Bool → ℕ → Type 0
SoFar text old new is_escaped i =
    (said : List ℕ) × (new ≡ old ++ said) × (unescaped text ≡ joined said (unescaped_after is_escaped (drop i text)))

nothing_joined : (text : Option (List ℕ)) → text ≡ joined [] text
nothing_joined None = refl
nothing_joined (Some rest) = refl

one_joined : (said : List ℕ) (byte : ℕ) (text : Option (List ℕ)) → joined said (prepend byte text)
    ≡ joined (said ++ byte ∷ []) text
one_joined said byte None = refl
one_joined said byte (Some rest) = ap Some (sym (append_assoc said (byte ∷ []) rest))

pub so_far_none : (text old : List ℕ) → SoFar text old old false 0
so_far_none text old = ([], sym (append-nil old), nothing_joined (unescaped text))

module _ (text old new : List ℕ) (i byte : ℕ) (within : i < length text) (is : byte ≡ get_or text i 0) where
  -- the bytes that are left
  left : drop i text ≡ byte ∷ drop (i + 1) text
  left = drop-cons text i 0 within ∙ ap (λ (n : ℕ). get_or text i 0 ∷ drop n text) (sym (add-one i))
      ∙ ap (λ (b : ℕ). b ∷ drop (i + 1) text) (sym is)

  next : (is_escaped : Bool) → SoFar text old new is_escaped i
      → (said : List ℕ) × (new ≡ old ++ said)
      × (unescaped text ≡ joined said (unescaped_after is_escaped (byte ∷ drop (i + 1) text)))
  next is_escaped p = (p.0, p.1, p.2 ∙ ap (λ (l : List ℕ). joined p.0 (unescaped_after is_escaped l)) left)

  pub so_far_backslash : SoFar text old new false i → byte ≡ 92 → SoFar text old new true (i + 1)
  so_far_backslash p e =
      let q = next false p in
      (q.0, q.1, q.2 ∙ ap (λ (b : ℕ). joined q.0 (unescaped_after false (b ∷ drop (i + 1) text))) e)

  pub so_far_return : SoFar text old new false i → byte ≡ 13 → unescaped text ≡ None
  so_far_return p e =
      let q = next false p in q.2 ∙ ap (λ (b : ℕ). joined q.0 (unescaped_after false (b ∷ drop (i + 1) text))) e

  pub so_far_plain : (more : List ℕ) → SoFar text old new false i → (byte ≡ 92 → ⊥) → (byte ≡ 13 → ⊥)
      → more ≡ new ++ byte ∷ [] → SoFar text old more false (i + 1)
  so_far_plain more p no_backslash no_return e =
      let q = next false p in
      let rest = unescaped_after false (drop (i + 1) text) in
      let first : (byte == 92) ≡ false = grind (arith, nat_tests) in
      let second : (byte == 13) ≡ false = grind (arith, nat_tests) in
      let plain : unescaped_after false (byte ∷ drop (i + 1) text) ≡ prepend byte rest =
      ap (λ (b : Bool). if b then unescaped_after true (drop (i + 1) text)
      else (if byte == 13 then None else prepend byte rest)) first
      ∙ ap (λ (b : Bool). if b then None else prepend byte rest) second in (
        q.0 ++ byte ∷ [],
        e ∙ ap (λ (l : List ℕ). l ++ byte ∷ []) q.1 ∙ append_assoc old q.0 (byte ∷ []),
        q.2 ∙ ap (joined q.0) plain ∙ one_joined q.0 byte rest,
      )

  pub so_far_refused : SoFar text old new true i → is_refused_byte byte ≡ true → unescaped text ≡ None
  so_far_refused p e =
      let q = next true p in
      let rest = unescaped_after false (drop (i + 1) text) in
      q.2 ∙ ap (λ (b : Bool). joined q.0 (if b then None else prepend (letter_byte byte) rest)) e

  pub so_far_letter : (more : List ℕ) → SoFar text old new true i → is_refused_byte byte ≡ false
      → more ≡ new ++ letter_byte byte ∷ [] → SoFar text old more false (i + 1)
  so_far_letter more p taken e =
      let q = next true p in
      let rest = unescaped_after false (drop (i + 1) text) in (
        q.0 ++ letter_byte byte ∷ [],
        e ∙ ap (λ (l : List ℕ). l ++ letter_byte byte ∷ []) q.1 ∙ append_assoc old q.0 (letter_byte byte ∷ []),
        q.2 ∙ ap (λ (b : Bool). joined q.0 (if b then None else prepend (letter_byte byte) rest)) taken
            ∙ one_joined q.0 (letter_byte byte) rest,
      )

nothing_after : (said : List ℕ) (old new text : List ℕ) (is_escaped : Bool) → new ≡ old ++ said
    → unescaped text ≡ joined said (unescaped_after is_escaped []) → Unescapes text old new (not is_escaped)
nothing_after said old new text false e p = (said, p ∙ ap Some (append-nil said), e)
nothing_after said old new text true e p = p

pub so_far_all : (text old new : List ℕ) (is_escaped : Bool) (i : ℕ) → drop i text ≡ []
    → SoFar text old new is_escaped i
    → Unescapes text old new (not is_escaped)
so_far_all text old new is_escaped i end p =
    nothing_after p.0 old new text is_escaped p.1
    (p.2 ∙ ap (λ (l : List ℕ). joined p.0 (unescaped_after is_escaped l)) end)

-- the field before a tab is the first
pub first_field : (field after : List ℕ) → Lacks 9 field → fields_of (field ++ 9 ∷ after) ≡ field ∷ fields_of after
first_field [] after p = refl
first_field (x ∷ field) after p =
    ap (λ (b : Bool). cond b ([] ∷ fields_of (field ++ 9 ∷ after)) (onto_first x (fields_of (field ++ 9 ∷ after)))) p.0
    ∙ ap (onto_first x) (first_field field after p.1)

-- without a tab there is no other
pub last_field : (field : List ℕ) → Lacks 9 field → fields_of field ≡ field ∷ []
last_field [] p = refl
last_field (x ∷ field) p =
    ap (λ (b : Bool). cond b ([] ∷ fields_of field) (onto_first x (fields_of field))) p.0
    ∙ ap (onto_first x) (last_field field p.1)

-- a text without a backslash and a carriage return is what it says
plain_text : (text : List ℕ) → LacksEscapes text → unescaped text ≡ Some text
plain_text [] h = refl
plain_text (byte ∷ text) h =
    let first = or_parts (byte == 92) (byte == 13) h.0 in
    let rest : unescaped text ≡ Some text = plain_text text h.1 in
    ap (λ (b : Bool). if b then unescaped_after true text
    else (if byte == 13 then None else prepend byte (unescaped text)))
    first.0
    ∙ ap (λ (b : Bool). if b then None else prepend byte (unescaped text)) first.1 ∙ ap (prepend byte) rest

pub says_plain : (field : List ℕ) → (field ≡ 92 ∷ 78 ∷ [] → ⊥) → LacksEscapes field → Says field (Some field)
says_plain field not_null h = (not_null, plain_text field h)

nowhere : (text : List ℕ) → ((k : ℕ) → k < length text → is_byte2 92 13 (get_or text k 0) ≡ true → ⊥)
    → LacksEscapes text
nowhere [] h = tt
nowhere (byte ∷ text) h =
    let rest = nowhere text (λ k below. h (suc k) (omega (arith, below))) in
    (false_from_ne_true (byte == 92 || byte == 13) (h 0 (omega arith)), rest)

-- a text in which none of them was found
pub none_found : (text : List ℕ) (place : Option ℕ) → IsFirstByte (is_byte2 92 13) text place → is_some place ≡ false
    → LacksEscapes text
none_found text None first e = nowhere text (λ k below passes. first k (omega arith) below passes)
none_found text (Some k) first e = let bad : ⊥ = cc in absurd bad

cut : (b : Bool) (byte : ℕ) (parts : List (List ℕ)) → (byte == 92 || byte == 13) ≡ false
    → AllByRecursion LacksEscapes parts
    → AllByRecursion LacksEscapes (cond b ([] ∷ parts) (onto_first byte parts))
cut true byte parts e p = (tt, p)
cut false byte [] e p = ((e, tt), tt)
cut false byte (part ∷ parts) e p = ((e, p.0), p.1)

-- nor is one in a field of such a line
pub plain_fields : (line : List ℕ) → LacksEscapes line → AllByRecursion LacksEscapes (fields_of line)
plain_fields [] h = (tt, tt)
plain_fields (byte ∷ line) h = cut (byte == 9) byte (fields_of line) h.0 (plain_fields line h.1)

pub says_unescaped : (field new : List ℕ) (is_text : Bool) → (field ≡ 92 ∷ 78 ∷ [] → ⊥)
    → Unescapes field [] new is_text → is_text ≡ true → Says field (Some new)
says_unescaped field new true not_null u e = (not_null, u.1 ∙ ap Some (sym u.2))
says_unescaped field new false not_null u e = let bad : ⊥ = cc in absurd bad

-- a field that is not the same text as \N
pub not_same : (field null : List ℕ) (same : Bool) → same ≡ bytes_eq field null → null ≡ 92 ∷ 78 ∷ [] → same ≡ false
    → field ≡ 92 ∷ 78 ∷ [] → ⊥
not_same field null same is names e equal =
    let yes : bytes_eq field null ≡ true = (bytes_eq-Decides field null).1 (equal ∙ sym names) in
    let bad : ⊥ = cc in absurd bad
