-- What the proof of `is_word` answers by hand.
use Rattle.std.specs.Prelude.{◌≡◌, ℕ, List, [], ◌∷◌, map, Bool, true, false, refl}
use Rattle.std.specs.Char.{to_ascii_lowercase}
use Rattle.std.specs.Float.Parse.{lowercases_to}
use Rattle.std.proofs.Common.{sym}
use Rattle.std.proofs.lemmas.Bool.{and_parts, eq-eqb, eqb-true}
use Rattle.pg_numbers.proofs.numeric.text.is_word.Goals as goal

lowered : (bs ws : List ℕ) → lowercases_to bs ws ≡ true → map to_ascii_lowercase bs ≡ ws
lowered [] [] h = refl
lowered [] (w ∷ ws) h = absurd cc
lowered (b ∷ bs) [] h = absurd cc
lowered (b ∷ bs) (w ∷ ws) h =
    let both = and_parts _ _ h in
    let first : to_ascii_lowercase b ≡ w = eqb-true _ _ both.0 in
    let others = lowered bs ws both.1 in
    cc

lowers : (bs ws : List ℕ) → map to_ascii_lowercase bs ≡ ws → lowercases_to bs ws ≡ true
lowers [] [] h = refl
lowers [] (w ∷ ws) h = absurd cc
lowers (b ∷ bs) [] h = absurd cc
lowers (b ∷ bs) (w ∷ ws) h =
    let first : to_ascii_lowercase b ≡ w = cc in
    let others = lowers bs ws cc in
    rw (eq-eqb _ _ first, others) refl

same_test : (a b : Bool) → (a ≡ true → b ≡ true) → (b ≡ true → a ≡ true) → a ≡ b
same_test true b p q = sym (p refl)
same_test false true p q = q refl
same_test false false p q = refl

pub returns : goal.returns
returns c =
    let text = c.args.text.now in
    let word = map to_ascii_lowercase c.args.word.now in
    let same = c.eq_ignore_ascii_case.ensures.test in
    same_test _ _ (λ t. lowers text word (same.0 t)) (λ t. same.1 (lowered text word t))
