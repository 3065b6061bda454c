-- Lines, and what is taken of them.
use Rattle.std.proofs.Common.{arith, length, ◌≡◌, ℕ, List, [], ◌∷◌, ◌++◌, refl, sym, ap, ◌∙◌, append_assoc}
use Rattle.std.proofs.Common.{if◌then◌else◌}
use Rattle.streams.specs.Lines.{lines_of, onto, IsOneLine}
use Rattle.streams.specs.Answers.{Answering, Saying, GainsAnswers, Splits, TakesLines, TakesSome, TakesBefore}
use Rattle.streams.proofs.Answers.{gains_more}

pub one_line-append : (xs ys : List ℕ) → IsOneLine xs → IsOneLine ys → IsOneLine (xs ++ ys)
one_line-append [] ys p q = q
one_line-append (x ∷ xs) ys p q = (p.0, one_line-append xs ys p.1 q)

-- a line that is ended is the first
pub lines_of-line : (line more : List ℕ) → IsOneLine line → lines_of (line ++ 10 ∷ more) ≡ line ∷ lines_of more
unfolding lines_of
lines_of-line [] more p = refl
lines_of-line (x ∷ xs) more p =
    ap (λ b. if b then [] ∷ lines_of (xs ++ 10 ∷ more) else onto x (lines_of (xs ++ 10 ∷ more))) p.0
    ∙ ap (onto x) (lines_of-line xs more p.1)

-- and one that is not ended is the only one
pub lines_of-last : (x : ℕ) (xs : List ℕ) → IsOneLine (x ∷ xs) → lines_of (x ∷ xs) ≡ (x ∷ xs) ∷ []
unfolding lines_of
lines_of-last x [] p = ap (λ b. if b then [] ∷ [] else (x ∷ []) ∷ []) p.0
lines_of-last x (y ∷ ys) p =
    ap (λ b. if b then [] ∷ lines_of (y ∷ ys) else onto x (lines_of (y ∷ ys))) p.0
    ∙ ap (onto x) (lines_of-last y ys p.1)

pub no_lines : (xs : List ℕ) → length xs ≡ 0 → lines_of xs ≡ []
unfolding lines_of
no_lines [] e = refl
no_lines (x ∷ xs) e = absurd (omega arith)

pub last_line : (xs : List ℕ) → IsOneLine xs → (length xs ≡ 0 → ⊥) → lines_of xs ≡ xs ∷ []
last_line [] p h = absurd (h refl)
last_line (x ∷ xs) p h = lines_of-last x xs p

pub takes_some : (A : Answering) (xs line old new : List ℕ) → TakesLines A xs line old new
    → TakesSome A xs old new
takes_some A xs line old new t = (t.0, λ more. (lines_of (line ++ more), t.1 more), t.2)

-- where the lines go on after a line that is ended
next_line : (xs line last after : List ℕ) (done : List (List ℕ)) → IsOneLine line → IsOneLine last
    → Splits xs done (line ++ (last ++ 10 ∷ after)) → Splits xs (done ++ (line ++ last) ∷ []) after
next_line xs line last after done p q s =
    let next : (more : List ℕ) → lines_of ((line ++ (last ++ 10 ∷ after)) ++ more) ≡ (line ++ last)
    ∷ lines_of (after ++ more)
    = λ more. ap lines_of (simp append_assoc)
    ∙ lines_of-line (line ++ last) (after ++ more) (one_line-append line last p q) in
    λ more. s more ∙ ap (λ l. done ++ l) (next more) ∙ sym (append_assoc done _ _)

-- the next line is taken
pub takes_next : (A : Answering) (xs line last after old mid new : List ℕ) → IsOneLine line
    → IsOneLine last
    → TakesLines A xs (line ++ (last ++ 10 ∷ after)) old mid → GainsAnswers A ((line ++ last) ∷ []) mid new
    → TakesLines A xs after old new
takes_next A xs line last after old mid new p q t g =
    (t.0 ++ (line ++ last) ∷ [], next_line xs line last after t.0 p q t.1, gains_more A t.0 _ old mid new t.2 g)

-- the next line is refused
pub takes_before : {F : Type 0} (A : Answering) (R : Saying F) (fault : F) (xs line last after old mid new : List ℕ)
    → IsOneLine line → IsOneLine last → TakesLines A xs (line ++ (last ++ 10 ∷ after)) old mid → new ≡ mid
    → R (line ++ last) fault → TakesBefore A R fault xs old new
takes_before A R fault xs line last after old mid new p q t same r = (
  t.0,
  line ++ last,
  (λ more. (lines_of (after ++ more), next_line xs line last after t.0 p q t.1 more)),
  (t.2.0, t.2.1, same ∙ t.2.2),
  r,
)
