-- The fields of a notice, one after another.
use Rattle.std.proofs.Common.{◌≡◌, ◌≢◌, ◌≤◌, ◌<◌, ◌-◌, ◌==◌, ◌++◌, ℕ, Bool, true, false, List, [], ◌∷◌, Some, None, ap, refl, sym, ◌∙◌}
use Rattle.std.proofs.Common.{arith, drop, get_or, length, option_map, take, if◌then◌else◌}
use Rattle.std.proofs.lemmas.Bool.Decides.{nat_tests}
use Rattle.std.proofs.lemmas.List.{take_all}
use Rattle.streams.specs.Lines.{Lacks}
use Rattle.pg_messages.specs.Notices.{field_in}
use Rattle.pg_messages.specs.Reading.{until_zero}
use Rattle.pg_messages.proofs.Strings.{found, none}

-- the first byte and the others
pub first_and_rest : (s : List ℕ) → 1 ≤ length s → s ≡ get_or s 0 0 ∷ take (length s - 1) (drop 1 s)
first_and_rest [] h = absurd (omega (arith, h))
first_and_rest (byte ∷ s) h = ap (λ rest. byte ∷ rest) (sym (take_all (length (byte ∷ s) - 1) s (omega arith)))

-- the text of another field is passed over
passes : (code : ℕ) (text after : List ℕ) → Lacks 0 text
    → field_in code true (text ++ 0 ∷ after) ≡ field_in code false after
unfolding field_in
passes code [] after lacks = refl
passes code (byte ∷ text) after lacks =
    ap (λ b. if b then field_in code false (text ++ 0 ∷ after) else field_in code true (text ++ 0 ∷ after)) lacks.0
    ∙ passes code text after lacks.1

-- and one that does not end is the last
ends : (code : ℕ) (s : List ℕ) → Lacks 0 s → field_in code true s ≡ None
unfolding field_in
ends code [] lacks = refl
ends code (byte ∷ s) lacks =
    ap (λ b. if b then field_in code false s else field_in code true s) lacks.0 ∙ ends code s lacks.1

-- after the last field
pub no_more : (code : ℕ) (s : List ℕ) → length s < 1 → field_in code false s ≡ None
unfolding field_in
no_more code [] h = refl
no_more code (byte ∷ s) h = absurd (omega (arith, h))

-- at the start of a field
at_field : (code first : ℕ) (rest : List ℕ) → first ≢ 0
    → field_in code false (first ∷ rest)
    ≡ (if first == code then option_map (λ p. p.0) (until_zero rest) else field_in code true rest)
unfolding field_in
at_field code first rest other =
    let no : (first == 0) ≡ false = grind (arith, nat_tests, other) in
    ap (λ b. if b then None else if first == code then option_map (λ p. p.0) (until_zero rest)
    else field_in code true rest) no

module _ (code : ℕ) (s rest : List ℕ) (first : ℕ) (is : s ≡ first ∷ rest) where
  pub no_field : first ≡ 0 → field_in code false s ≡ None
  unfolding field_in
  no_field zero_is =
      let yes : (first == 0) ≡ true = grind (arith, nat_tests, zero_is) in
      ap (field_in code false) is
      ∙ ap (λ b. if b then None else if first == code then option_map (λ p. p.0) (until_zero rest)
      else field_in code true rest) yes

  pub here : (text after : List ℕ) → first ≢ 0 → first ≡ code → Lacks 0 text → rest ≡ text ++ 0 ∷ after
      → field_in code false s ≡ Some text
  here text after other same lacks parts =
      let yes : (first == code) ≡ true = grind (arith, nat_tests, same) in
      ap (field_in code false) is ∙ at_field code first rest other
      ∙ ap (λ b. if b then option_map (λ p. p.0) (until_zero rest) else field_in code true rest) yes
      ∙ ap (option_map (λ p. p.0)) (found rest text after lacks parts)

  pub later : (text after : List ℕ) → first ≢ 0 → first ≢ code → Lacks 0 text → rest ≡ text ++ 0 ∷ after
      → field_in code false after ≡ field_in code false s
  later text after other differs lacks parts =
      let no : (first == code) ≡ false = grind (arith, nat_tests, differs) in
      sym (
      ap (field_in code false) is ∙ at_field code first rest other
      ∙ ap (λ b. if b then option_map (λ p. p.0) (until_zero rest) else field_in code true rest) no
      ∙ ap (field_in code true) parts ∙ passes code text after lacks
      )

  pub truncated : first ≢ 0 → Lacks 0 rest → field_in code false s ≡ None
  truncated other lacks =
      ap (field_in code false) is ∙ at_field code first rest other ∙ either (first == code)
    where
      either : (b : Bool) → (if b then option_map (λ p. p.0) (until_zero rest) else field_in code true rest) ≡ None
      either true = ap (option_map (λ p. p.0)) (none rest lacks)
      either false = ends code rest lacks
