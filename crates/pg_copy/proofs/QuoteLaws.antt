-- Names in double quotes, and the parts of a text around a byte.
use Rattle.std.proofs.Common.{◌≡◌, ◌≢◌, ◌==◌, ◌<◌, ℕ, Bool, true, false, List, [], ◌∷◌, ◌++◌, Option, Some, None}
use Rattle.std.proofs.Common.{ap, arith, get_or, length, refl, suc, sym, ◌∙◌}
use Rattle.std.proofs.lemmas.Bool.Decides.{nat_tests}
use Rattle.std.proofs.lemmas.Str.Pattern.{IsSplitOnceResult, split_parts}
use Rattle.std.specs.Borrow.{Bor}
use Rattle.std.specs.Prelude.{option_map}
use Rattle.pg_copy.specs.Words.{after_name, after_quotes, after_space, parts_around}

-- a text without this byte
abbrev pub Lacks : ℕ → List ℕ → Type 0
Lacks byte text = (i : ℕ) → i < length text → get_or text i 0 ≢ byte

pub first : (sought byte : ℕ) (text : List ℕ) → Lacks sought (byte ∷ text) → (byte == sought) ≡ false
first sought byte text lacks = let other : byte ≢ sought = lacks 0 (omega arith) in grind (arith, nat_tests)

pub others : (sought byte : ℕ) (text : List ℕ) → Lacks sought (byte ∷ text) → Lacks sought text
others sought byte text lacks = λ i l. lacks (suc i) (omega arith)

-- a name goes on to its first quote
pub to_quote : (name rest : List ℕ) → Lacks 34 name → after_quotes false (name ++ 34 ∷ rest) ≡ after_quotes true rest
to_quote [] rest lacks = refl
to_quote (byte ∷ name) rest lacks =
    let plain : (byte == 34) ≡ false = first 34 byte name lacks in
    ap (λ q. after_quotes q (name ++ 34 ∷ rest)) plain ∙ to_quote name rest (others 34 byte name lacks)

-- a name without a quote does not end
pub no_quote : (name : List ℕ) → Lacks 34 name → after_quotes false name ≡ None
no_quote [] lacks = refl
no_quote (byte ∷ name) lacks =
    let plain : (byte == 34) ≡ false = first 34 byte name lacks in
    ap (λ q. after_quotes q name) plain ∙ no_quote name (others 34 byte name lacks)

-- a quote before another byte ends the name
pub one_quote : (rest : List ℕ) → ((more : List ℕ) → rest ≢ 34 ∷ more) → after_quotes true rest ≡ Some rest
one_quote [] alone = refl
one_quote (byte ∷ rest) alone = go (byte == 34) refl
  where
    go : (t : Bool) → (byte == 34) ≡ t → after_quotes true (byte ∷ rest) ≡ Some (byte ∷ rest)
    go true e = let is : byte ≡ 34 = grind (arith, nat_tests) in absurd (alone rest (ap (λ b. b ∷ rest) is))
    go false e = rw e refl

-- two quotes are one
pub two_quotes : (more : List ℕ) → after_quotes true (34 ∷ more) ≡ after_quotes false more
two_quotes more = refl

-- a name that does not begin with a quote ends at a space
pub not_quoted : (text : List ℕ) → ((rest : List ℕ) → text ≢ 34 ∷ rest)
    → after_name text ≡ after_space text
not_quoted [] plain = refl
not_quoted (byte ∷ text) plain = go (byte == 34) refl
  where
    go : (t : Bool) → (byte == 34) ≡ t
        → after_name (byte ∷ text) ≡ after_space (byte ∷ text)
    go true e = let is : byte ≡ 34 = grind (arith, nat_tests) in absurd (plain text (ap (λ b. b ∷ text) is))
    go false e = rw e refl

-- parts around a byte

around : (sought : ℕ) (before after : List ℕ) → Lacks sought before
    → parts_around sought (before ++ sought ∷ after) ≡ Some (before, after)
around sought [] after lacks = let same : (sought == sought) ≡ true = grind (arith, nat_tests) in rw same refl
around sought (byte ∷ before) after lacks =
    let other = first sought byte before lacks in
    let rest = around sought before after (others sought byte before lacks) in
    rw (other, rest) refl

around_none : (sought : ℕ) (text : List ℕ) → Lacks sought text → parts_around sought text ≡ None
around_none sought [] lacks = refl
around_none sought (byte ∷ text) lacks =
    let other = first sought byte text lacks in
    let rest = around_none sought text (others sought byte text lacks) in
    rw (other, rest) refl

-- `split_once` at an ASCII character gives the parts around it
pub split_once_around : (c : ℕ) (text : List ℕ) (r : Option (Bor (List ℕ) × Bor (List ℕ))) → IsSplitOnceResult c text r
    → c < 128 → option_map (λ x. (x.0.now, x.1.now)) r ≡ parts_around c text
split_once_around c text None clause low = sym (around_none c text (split_parts c text None clause low))
split_once_around c text (Some x) clause low =
    let cut = split_parts c text (Some x) clause low in
    sym (ap (parts_around c) cut.0 ∙ around c x.0.now x.1.now cut.1)
