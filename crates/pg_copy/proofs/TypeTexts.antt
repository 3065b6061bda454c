-- The names of types.
use Rattle.std.proofs.Common.{◌≡◌, ◌≢◌, ◌==◌, ◌<◌, ◌≤◌, ◌-◌, ◌+◌, ℕ, Bool, true, false, not, List, [], ◌∷◌, ◌++◌}
use Rattle.std.proofs.Common.{Option, Some, None}
use Rattle.std.proofs.Common.{ap, codes, arith, drop, get_or, length, refl, sym, take, ◌∙◌}
use Rattle.std.proofs.lemmas.Bool.Decides.{nat_tests}
use Rattle.std.proofs.lemmas.List.{get_or-drop, length-drop, reverse-append, reverse-reverse}
use Rattle.std.proofs.lemmas.List.Sums.{suffix_len_is}
use Rattle.std.proofs.lemmas.Str.{len_utf8_ascii}
use Rattle.std.proofs.lemmas.Str.Pattern.{NoCharPasses-char}
use Rattle.std.specs.Borrow.{Bor}
use Rattle.std.specs.List.{after_last, starts_with, suffix_len}
use Rattle.std.specs.Option.{option_or}
use Rattle.std.specs.Prelude.{MatchOption, option_and_then, option_map, reverse}
use Rattle.std.specs.Str.Pattern.{RFindsChar}
use Rattle.pg_copy.specs.TypeNames.{between, plain_type, without_first, without_last}
use Rattle.pg_copy.specs.Types.{base_of}
use Rattle.pg_copy.specs.declared.types.Base.{Base}
use Rattle.pg_copy.specs.declared.types.Base.TheVariants as base

-- a byte at the start and at the end

-- `strip_prefix` at an ASCII character
pub first_stripped : (c : ℕ) (text : List ℕ) (r : Option (Bor (List ℕ)))
    → MatchOption r ((rest : List ℕ) → text ≢ c ∷ rest) (λ x. text ≡ c ∷ x.now)
    → option_map (λ s. s.now) r ≡ without_first c text
first_stripped c [] None h = refl
first_stripped c [] (Some x) h = cc
first_stripped c (byte ∷ text) None h = go (byte == c) refl
  where
    go : (t : Bool) → (byte == c) ≡ t → None ≡ without_first c (byte ∷ text)
    go true e = let is : byte ≡ c = grind (arith, nat_tests) in absurd (h text (ap (λ b. b ∷ text) is))
    go false e = rw e refl
first_stripped c (byte ∷ text) (Some x) h =
    let same : (c == c) ≡ true = grind (arith, nat_tests) in
    let there : without_first c (c ∷ x.now) ≡ Some x.now = rw same refl in
    sym (ap (without_first c) h ∙ there)

-- `strip_suffix` at an ASCII character
pub last_stripped : (c : ℕ) (text : List ℕ) (r : Option (Bor (List ℕ)))
    → MatchOption r ((front : List ℕ) → text ≢ front ++ (c ∷ [])) (λ x. text ≡ x.now ++ (c ∷ []))
    → option_map (λ s. s.now) r ≡ without_last c text
last_stripped c text None h = go (reverse text) refl
  where
    turned : (last : ℕ) (back : List ℕ) → reverse text ≡ last ∷ back → text ≡ reverse back ++ (last ∷ [])
    turned last back e = sym (reverse-reverse text) ∙ ap reverse e ∙ reverse-append (last ∷ []) back

    go : (back : List ℕ) → reverse text ≡ back → None ≡ option_map reverse (without_first c back)
    go [] e = refl
    go (last ∷ back) e = test (last == c) refl
      where
        test : (t : Bool) → (last == c) ≡ t → None ≡ option_map reverse (without_first c (last ∷ back))
        test true is =
            let same : last ≡ c = grind (arith, nat_tests) in
            absurd (h (reverse back) (turned last back e ∙ ap (λ b. reverse back ++ (b ∷ [])) same))
        test false is = rw is refl
last_stripped c text (Some x) h =
    let same : (c == c) ≡ true = grind (arith, nat_tests) in
    let there : without_first c (c ∷ reverse x.now) ≡ Some (reverse x.now) = rw same refl in
    let back : reverse text ≡ c ∷ reverse x.now = ap reverse h ∙ reverse-append x.now (c ∷ []) in
    sym (ap (λ t. option_map reverse (without_first c t)) back ∙ ap (option_map reverse) there
    ∙ ap (λ t. Some t) (reverse-reverse x.now))

-- the last point

other : (c byte : ℕ) → byte ≢ c → not (byte == c) ≡ true
other c byte apart = grind (arith, nat_tests)

same : (c byte : ℕ) → byte ≡ c → not (byte == c) ≡ false
same c byte is = grind (arith, nat_tests)

cut_at : (c : ℕ) (text : List ℕ) (j : ℕ) → j ≤ length text
    → ((k : ℕ) → j ≤ k → k < length text → get_or text k 0 ≢ c) → (0 < j → get_or text (j - 1) 0 ≡ c)
    → drop j text ≡ after_last (λ byte. byte == c) text
cut_at c text j within none here =
    let len : suffix_len (λ byte. not (byte == c)) text ≡ length text - j =
    suffix_len_is (λ byte. not (byte == c)) text j 0 within (λ k least most. other c (get_or text k 0)
    (none k least most))
    (λ some. same c (get_or text (j - 1) 0) (here some)) in
    let place : length text - suffix_len (λ byte. not (byte == c)) text ≡ j = omega (arith, len, within) in
    ap (λ n. drop n text) (sym place)

-- `rsplit_once` at an ASCII character
abbrev pub IsRsplitOnceResult : ℕ → List ℕ → Option (Bor (List ℕ) × Bor (List ℕ)) → Type 0
IsRsplitOnceResult c text r =
    MatchOption r (RFindsChar c text None) (λ x. (i : ℕ) × (j : ℕ) × RFindsChar c text (Some (i, j))
    × (x.0.now ≡ take i text) × (x.1.now ≡ drop j text) × (i ≤ j) × (length x.0.now ≡ i)
    × (length x.1.now + j ≡ length text))

pub no_last : (c : ℕ) (text : List ℕ) → RFindsChar c text None → c < 128
    → text ≡ after_last (λ byte. byte == c) text
no_last c text none low =
    cut_at c text 0 (omega arith) (λ k least most. NoCharPasses-char c text k none low most)
    (λ some. absurd (omega arith))

pub last_cut : (c : ℕ) (text : List ℕ) (x : Bor (List ℕ) × Bor (List ℕ)) → IsRsplitOnceResult c text (Some x)
    → c < 128 → x.1.now ≡ after_last (λ byte. byte == c) text
last_cut c text x h low =
    let i = h.0 in
    let j = h.1 in
    let wide : j ≡ i + 1 = omega (arith, h.2.1.ends, len_utf8_ascii c low) in
    let none : (k : ℕ) → j ≤ k → k < length text → get_or text k 0 ≢ c =
    λ k least most e.
    let back : j + (k - j) ≡ k = omega arith in
    NoCharPasses-char c (drop j text) (k - j) h.2.0 low (omega (arith, length-drop j text))
    (get_or-drop j text (k - j) 0 ∙ ap (λ n. get_or text n 0) back ∙ e) in
    let place : j - 1 ≡ i = omega (arith, wide) in
    h.4 ∙ cut_at c text j (omega (arith, h.7)) none (λ some. ap (λ n. get_or text n 0) place ∙ h.2.1.byte low)

-- names

pub of_interval : (name : List ℕ) → starts_with ◌==◌ name (codes "interval ") ≡ true
    → Some base.Interval ≡ plain_type name
of_interval name e = rw e refl

pub of_another : (name : List ℕ) (result : Option Base) → starts_with ◌==◌ name (codes "interval ") ≡ false
    → result ≡ option_or (base_of name) (option_and_then base_of (between 34 34 name)) → result ≡ plain_type name
of_another name result e is = rw e is
