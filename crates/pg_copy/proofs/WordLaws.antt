-- The parts of a text between commas.
use Rattle.std.proofs.Common.{◌≡◌, ◌<◌, ◌+◌, ◌-◌, ◌≤◌, ◌==◌, ℕ, Bool, true, false, List, [], ◌∷◌, ◌++◌, Some, None}
use Rattle.std.proofs.Common.{add-one, append-nil, append_assoc, ap, arith, drop, drop-cons, get_or, length, refl, sym}
use Rattle.std.proofs.Common.{suc, take, ◌∙◌}
use Rattle.std.proofs.lemmas.List.{take-append-drop, take_more}
use Rattle.std.proofs.lemmas.Bool.Decides.{nat_tests}
use Rattle.std.specs.List.{onto_first}
use Rattle.std.specs.Prelude.{if◌then◌else◌}
use Rattle.pg_copy.specs.Words.{IsCommaOf, depth_after, divides, is_quoted_after, pieces, pieces_within}

-- these bytes come before the first part
abbrev pub onto : List ℕ → List (List ℕ) → List (List ℕ)
onto front [] = front ∷ []
onto front (part ∷ parts) = (front ++ part) ∷ parts

-- the bytes up to a place were read, and no comma in them divides the text
abbrev pub Reached : List ℕ → ℕ → ℕ → Bool → Type 0
Reached text i depth is_quoted = pieces text ≡ onto (take i text) (pieces_within depth is_quoted (drop i text))

onto_none : (part : List ℕ) (parts : List (List ℕ)) → onto [] (part ∷ parts) ≡ part ∷ parts
onto_none part parts = refl

kept : (t : Bool) (byte : ℕ) (parts : List (List ℕ))
    → onto [] (if t then [] ∷ parts else onto_first byte parts) ≡ (if t then [] ∷ parts else onto_first byte parts)
kept true byte parts = refl
kept false byte [] = refl
kept false byte (part ∷ parts) = refl

pub reached_none : (text : List ℕ) → Reached text 0 0 false
reached_none [] = refl
reached_none (byte ∷ text) =
    sym (kept (divides byte 0 false) byte (pieces_within (depth_after byte 0 false) (is_quoted_after byte false) text))

onto_more : (front : List ℕ) (byte : ℕ) (parts : List (List ℕ))
    → onto front (onto_first byte parts) ≡ onto (front ++ byte ∷ []) parts
onto_more front byte [] = refl
onto_more front byte (part ∷ parts) = ap (λ p. p ∷ parts) (sym (append_assoc front (byte ∷ []) part))

next : (depth byte : ℕ) (is_quoted : Bool) (rest : List ℕ) → divides byte depth is_quoted ≡ false
    → pieces_within depth is_quoted (byte ∷ rest)
    ≡ onto_first byte (pieces_within (depth_after byte depth is_quoted) (is_quoted_after byte is_quoted) rest)
next depth byte is_quoted rest e = rw e refl

pub reached_more : (text : List ℕ) (i depth : ℕ) (is_quoted : Bool) → i < length text
    → divides (get_or text i 0) depth is_quoted ≡ false → Reached text i depth is_quoted
    → Reached text (i + 1) (depth_after (get_or text i 0) depth is_quoted) (is_quoted_after (get_or text i 0) is_quoted)
reached_more text i depth is_quoted l e r =
    let byte = get_or text i 0 in
    let parts = pieces_within (depth_after byte depth is_quoted) (is_quoted_after byte is_quoted) (drop (i + 1) text) in
    let cut : drop i text ≡ byte ∷ drop (i + 1) text = rw (add-one i) (drop-cons text i 0 l) in
    r ∙ ap (λ rest. onto (take i text) (pieces_within depth is_quoted rest)) cut
    ∙ ap (onto (take i text)) (next depth byte is_quoted (drop (i + 1) text) e)
    ∙ onto_more (take i text) byte parts ∙ ap (λ front. onto front parts) (sym (take_more text i 0 l))

comma_is : (byte depth : ℕ) (is_quoted : Bool) → divides byte depth is_quoted ≡ true
    → (byte ≡ 44) × (depth ≡ 0) × (is_quoted ≡ false)
comma_is byte depth true e = grind (arith, nat_tests)
comma_is byte depth false e = grind (arith, nat_tests)

pub reached_comma : (text : List ℕ) (i depth : ℕ) (is_quoted : Bool) → i < length text
    → divides (get_or text i 0) depth is_quoted ≡ true → Reached text i depth is_quoted → IsCommaOf text (Some i)
reached_comma text i depth is_quoted l e r =
    let is = comma_is (get_or text i 0) depth is_quoted e in
    let cut : drop i text ≡ 44 ∷ drop (i + 1) text =
    rw (add-one i) (drop-cons text i 0 l ∙ ap (λ b. b ∷ drop (suc i) text) is.0) in
    let here : pieces text ≡ onto (take i text) (pieces_within 0 false (44 ∷ drop (i + 1) text)) =
    r ∙ ap (λ d. onto (take i text) (pieces_within d is_quoted (drop i text))) is.1
    ∙ ap (λ q. onto (take i text) (pieces_within 0 q (drop i text))) is.2
    ∙ ap (λ t. onto (take i text) (pieces_within 0 false t)) cut in
    (is.0, l, here ∙ ap (λ front. front ∷ pieces (drop (i + 1) text)) (append-nil (take i text)))

pub reached_all : (text : List ℕ) (i depth : ℕ) (is_quoted : Bool) → drop i text ≡ []
    → Reached text i depth is_quoted → IsCommaOf text None
reached_all text i depth is_quoted e r =
    r ∙ ap (λ t. onto (take i text) (pieces_within depth is_quoted t)) e
    ∙ ap (λ t. t ∷ []) (ap (λ t. take i text ++ t) (sym e) ∙ take-append-drop i text)

-- a byte is one parenthesis at most
pub depth_within : (byte depth : ℕ) (is_quoted : Bool) → depth_after byte depth is_quoted ≤ depth + 1
depth_within byte depth true = omega arith
depth_within byte depth false = go (byte == 40) (byte == 41)
  where
    go : (opens closes : Bool) → (if opens then depth + 1 else if closes then depth - 1 else depth) ≤ depth + 1
    go true closes = omega arith
    go false true = omega arith
    go false false = omega arith
