-- Lemmas on the texts of MAC addresses.
use Rattle.std.proofs.Common.{◌≡◌, ℕ, suc, ◌+◌, List, [], ◌∷◌, length, refl, sym, ap, ◌∙◌, slice_index, true, subst}
use Rattle.std.proofs.Common.{arith}
use Rattle.std.proofs.lemmas.Bool.{and_parts, eqb-true}
use Rattle.std.specs.List.{AllZip, join_with_byte}
use Rattle.hex.proofs.HexLemmas.{decode_of-ok}
use Rattle.pg_base.proofs.Lists.{zip_length}
use Rattle.pg_base.specs.NetworkTexts.{IsPair, SaysMacaddr, has_colons}

-- the two bytes at a place of a text
abbrev pub pair_at : List ℕ → ℕ → List ℕ
pair_at text place = slice_index text place ∷ slice_index text (suc place) ∷ []

-- the six pairs of a text
abbrev pub pairs_in : List ℕ → List (List ℕ)
pairs_in text =
    pair_at text 0 ∷ pair_at text 3 ∷ pair_at text 6 ∷ pair_at text 9 ∷ pair_at text 12 ∷ pair_at text 15 ∷ []

-- the first three elements of a list, and those after them
three : {A : Type 0} (xs : List A) (n : ℕ) → length xs ≡ 3 + n
    → (a : A) × (b : A) × (c : A) × (rest : List A) × (xs ≡ a ∷ b ∷ c ∷ rest) × (length rest ≡ n)
three [] n e = absurd (omega arith)
three (a ∷ []) n e = absurd (omega arith)
three (a ∷ b ∷ []) n e = absurd (omega arith)
three (a ∷ b ∷ c ∷ rest) n e = (a, b, c, rest, refl, omega arith)

two : (text : List ℕ) → length text ≡ 2 → (a : ℕ) × (b : ℕ) × (text ≡ a ∷ b ∷ [])
two [] e = absurd (omega arith)
two (a ∷ []) e = absurd (omega arith)
two (a ∷ b ∷ []) e = (a, b, refl)
two (a ∷ b ∷ c ∷ rest) e = absurd (omega arith)

-- a text with the colons has 17 bytes
length_of : (text : List ℕ) → has_colons text ≡ true → length text ≡ 17
length_of text h =
    eqb-true _ _ (and_parts _ _ (and_parts _ _ (and_parts _ _ (and_parts _ _ (and_parts _ _ h).0).0).0).0).0

-- a text of seventeen bytes
abbrev seventeen : ℕ → ℕ → ℕ → ℕ → ℕ → ℕ → ℕ → ℕ → ℕ → ℕ → ℕ → ℕ → ℕ → ℕ → ℕ → ℕ → ℕ → List ℕ
seventeen a0 a1 a2 b0 b1 b2 c0 c1 c2 d0 d1 d2 e0 e1 e2 f0 f1 =
    a0 ∷ a1 ∷ a2 ∷ b0 ∷ b1 ∷ b2 ∷ c0 ∷ c1 ∷ c2 ∷ d0 ∷ d1 ∷ d2 ∷ e0 ∷ e1 ∷ e2 ∷ f0 ∷ f1 ∷ []

-- seventeen bytes with the colons of a MAC address are six pairs with colons between
spelled : (a0 a1 a2 b0 b1 b2 c0 c1 c2 d0 d1 d2 e0 e1 e2 f0 f1 : ℕ)
    → has_colons (seventeen a0 a1 a2 b0 b1 b2 c0 c1 c2 d0 d1 d2 e0 e1 e2 f0 f1) ≡ true
    → seventeen a0 a1 a2 b0 b1 b2 c0 c1 c2 d0 d1 d2 e0 e1 e2 f0 f1
    ≡ join_with_byte 58 (pairs_in (seventeen a0 a1 a2 b0 b1 b2 c0 c1 c2 d0 d1 d2 e0 e1 e2 f0 f1))
spelled a0 a1 a2 b0 b1 b2 c0 c1 c2 d0 d1 d2 e0 e1 e2 f0 f1 h =
    let fifth = and_parts _ _ h in
    let fourth = and_parts _ _ fifth.0 in
    let third = and_parts _ _ fourth.0 in
    let second = and_parts _ _ third.0 in
    let a = eqb-true a2 58 second.0 in
    let b = eqb-true b2 58 second.1 in
    let c = eqb-true c2 58 third.1 in
    let d = eqb-true d2 58 fourth.1 in
    let e = eqb-true e2 58 fifth.1 in
    λ i. a0 ∷ a1 ∷ a i ∷ b0 ∷ b1 ∷ b i ∷ c0 ∷ c1 ∷ c i ∷ d0 ∷ d1 ∷ d i ∷ e0 ∷ e1 ∷ e i ∷ f0 ∷ f1 ∷ []

-- and so is a text in parts
spelled_in_parts : (text r1 r2 r3 r4 r5 : List ℕ) (a0 a1 a2 b0 b1 b2 c0 c1 c2 d0 d1 d2 e0 e1 e2 f0 f1 : ℕ)
    → text ≡ a0 ∷ a1 ∷ a2 ∷ r1 → r1 ≡ b0 ∷ b1 ∷ b2 ∷ r2 → r2 ≡ c0 ∷ c1 ∷ c2 ∷ r3 → r3 ≡ d0 ∷ d1 ∷ d2 ∷ r4
    → r4 ≡ e0 ∷ e1 ∷ e2 ∷ r5 → r5 ≡ f0 ∷ f1 ∷ [] → has_colons text ≡ true
    → text ≡ join_with_byte 58 (pairs_in text)
spelled_in_parts text r1 r2 r3 r4 r5 a0 a1 a2 b0 b1 b2 c0 c1 c2 d0 d1 d2 e0 e1 e2 f0 f1 ea eb ec ed ee ef h =
    let whole : text ≡ seventeen a0 a1 a2 b0 b1 b2 c0 c1 c2 d0 d1 d2 e0 e1 e2 f0 f1 =
    rw (ea, eb, ec, ed, ee, ef) refl in
    subst (λ t. t ≡ join_with_byte 58 (pairs_in t)) (sym whole)
    (spelled a0 a1 a2 b0 b1 b2 c0 c1 c2 d0 d1 d2 e0 e1 e2 f0 f1 (subst (λ t. has_colons t ≡ true) whole h))

-- a text with the length and the colons of a MAC address is its six pairs with colons between
pub in_pairs : (text : List ℕ) → has_colons text ≡ true → text ≡ join_with_byte 58 (pairs_in text)
in_pairs text h =
    let a = three text 14 (length_of text h) in
    let b = three a.3 11 a.5 in
    let c = three b.3 8 b.5 in
    let d = three c.3 5 c.5 in
    let e = three d.3 2 d.5 in
    let f = two e.3 e.5 in
    spelled_in_parts text a.3 b.3 c.3 d.3 e.3 a.0 a.1 a.2 b.0 b.1 b.2 c.0 c.1 c.2 d.0 d.1 d.2 e.0 e.1 e.2 f.0 f.1 a.4
    b.4 c.4 d.4 e.4 f.2 h

-- each is the digits of a byte
abbrev pub HasBytes : List (List ℕ) → Type 0
HasBytes [] = Unit {0}
HasBytes (pair ∷ pairs) = ((byte : ℕ) × IsPair pair byte) × HasBytes pairs

have_bytes : (pairs : List (List ℕ)) (bytes : List ℕ) → AllZip IsPair pairs bytes → HasBytes pairs
have_bytes [] bytes all = tt
have_bytes (pair ∷ pairs) [] all = absurd all
have_bytes (pair ∷ pairs) (byte ∷ bytes) all = ((byte, all.0), have_bytes pairs bytes all.1)

-- the two digits of a byte
digits : (pair : List ℕ) → (byte : ℕ) × IsPair pair byte → (a : ℕ) × (b : ℕ) × (pair ≡ a ∷ b ∷ [])
digits pair of = two pair (decode_of-ok pair (of.0 ∷ []) of.1).2

-- what is known of a text that says a MAC address
abbrev pub IsSpelled : List ℕ → Type 0
IsSpelled text = (has_colons text ≡ true) × HasBytes (pairs_in text)

six_spell : (p0 p1 p2 p3 p4 p5 : List ℕ) (a0 b0 a1 b1 a2 b2 a3 b3 a4 b4 a5 b5 : ℕ)
    → p0 ≡ a0 ∷ b0 ∷ [] → p1 ≡ a1 ∷ b1 ∷ [] → p2 ≡ a2 ∷ b2 ∷ [] → p3 ≡ a3 ∷ b3 ∷ []
    → p4 ≡ a4 ∷ b4 ∷ [] → p5 ≡ a5 ∷ b5 ∷ []
    → HasBytes (p0 ∷ p1 ∷ p2 ∷ p3 ∷ p4 ∷ p5 ∷ []) → IsSpelled (join_with_byte 58 (p0 ∷ p1 ∷ p2 ∷ p3 ∷ p4 ∷ p5 ∷ []))
six_spell p0 p1 p2 p3 p4 p5 a0 b0 a1 b1 a2 b2 a3 b3 a4 b4 a5 b5 e0 e1 e2 e3 e4 e5 have =
    let pairs : List (List ℕ) =
    (a0 ∷ b0 ∷ []) ∷ (a1 ∷ b1 ∷ []) ∷ (a2 ∷ b2 ∷ []) ∷ (a3 ∷ b3 ∷ []) ∷ (a4 ∷ b4 ∷ []) ∷ (a5 ∷ b5 ∷ []) ∷ [] in
    let of : HasBytes (pairs_in (join_with_byte 58 pairs)) = rw (e0, e1, e2, e3, e4, e5) at have in
    rw (e0, e1, e2, e3, e4, e5) (refl, of)

six : (p0 p1 p2 p3 p4 p5 : List ℕ) → HasBytes (p0 ∷ p1 ∷ p2 ∷ p3 ∷ p4 ∷ p5 ∷ [])
    → IsSpelled (join_with_byte 58 (p0 ∷ p1 ∷ p2 ∷ p3 ∷ p4 ∷ p5 ∷ []))
six p0 p1 p2 p3 p4 p5 have =
    let p = digits p0 have.0 in
    let q = digits p1 have.1.0 in
    let r = digits p2 have.1.1.0 in
    let s = digits p3 have.1.1.1.0 in
    let t = digits p4 have.1.1.1.1.0 in
    let u = digits p5 have.1.1.1.1.1.0 in
    six_spell p0 p1 p2 p3 p4 p5 p.0 p.1 q.0 q.1 r.0 r.1 s.0 s.1 t.0 t.1 u.0 u.1 p.2 q.2 r.2 s.2 t.2 u.2 have

listed : (text : List ℕ) (pairs after rest : List (List ℕ)) (p0 p1 p2 p3 p4 p5 : List ℕ) → pairs ≡ p0 ∷ p1 ∷ p2 ∷ after
    → after ≡ p3 ∷ p4 ∷ p5 ∷ rest → length rest ≡ 0 → HasBytes pairs → text ≡ join_with_byte 58 pairs → IsSpelled text
listed text pairs after [] p0 p1 p2 p3 p4 p5 e f none have is =
    let all : pairs ≡ p0 ∷ p1 ∷ p2 ∷ p3 ∷ p4 ∷ p5 ∷ [] = rw (e, f) refl in
    subst IsSpelled (sym (is ∙ ap (join_with_byte 58) all)) (six p0 p1 p2 p3 p4 p5 (subst HasBytes all have))
listed text pairs after (pair ∷ rest) p0 p1 p2 p3 p4 p5 e f none have is = absurd (omega arith)

-- a text that says a MAC address has its colons, and six pairs of digits
pub spells : (text bytes : List ℕ) → SaysMacaddr text bytes → IsSpelled text
spells text bytes said =
    let p = three said.0 3 (zip_length IsPair said.0 bytes said.2 ∙ said.3) in
    let q = three p.3 0 p.5 in
    listed text said.0 p.3 q.3 p.0 p.1 p.2 q.0 q.1 q.2 p.4 q.4 q.5 (have_bytes said.0 bytes said.2) said.1
