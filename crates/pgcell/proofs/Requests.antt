-- Lemmas on what a line asks for, and what it is answered.
use Rattle.std.proofs.Common.{◌≡◌, ℕ, List, [], ◌∷◌, ◌++◌, Bool, true, false, Option, Some, None, option_map, cond}
use Rattle.std.proofs.Common.{if◌then◌else◌, IsUtf8, refl, ap, subst, ◌∙◌}
use Rattle.std.specs.Str.{is_utf8}
use Rattle.std.proofs.lemmas.Bool.{eq-eqb}
use Rattle.std.proofs.lemmas.Str.{IsUtf8-from_is_utf8}
use Rattle.pgcell.specs.Answer.{Answer, AnswersRequest}
use Rattle.pgcell.specs.Request.{Command, request_of, split}
use Rattle.streams.specs.Lines.{Lacks}

-- the first part ends at the first separator
pub split_more : (separator : ℕ) (before after : List ℕ) → Lacks separator before
    → split separator (before ++ separator ∷ after) ≡ Some (before, after)
split_more separator [] after h =
    ap (λ t. cond t (Some ([], after)) (option_map (λ parts. (separator ∷ parts.0, parts.1)) (split separator after)))
    (eq-eqb separator separator refl)
split_more separator (byte ∷ bytes) after h =
    let rest = option_map (λ (parts : List ℕ × List ℕ). (byte ∷ parts.0, parts.1)) in
    ap (λ t. cond t (Some ([], bytes ++ separator ∷ after)) (rest (split separator (bytes ++ separator ∷ after)))) h.0
    ∙ ap rest (split_more separator bytes after h.1)

-- what lacks the separator is not divided
pub split_none : (separator : ℕ) (bytes : List ℕ) → Lacks separator bytes → split separator bytes ≡ None
split_none separator [] h = refl
split_none separator (byte ∷ bytes) h =
    let rest = option_map (λ (parts : List ℕ × List ℕ). (byte ∷ parts.0, parts.1)) in
    ap (λ t. cond t (Some ([], bytes)) (rest (split separator bytes))) h.0
    ∙ ap rest (split_none separator bytes h.1)

-- what is no UTF-8 fails the test for it
pub no_text : {A : Type 0} (text : List ℕ) (x : A) (told : Bool) → is_utf8 text ≡ told → (IsUtf8 text → ⊥) → None
    ≡ (if is_utf8 text then Some x else None)
no_text text x true e h = absurd (h (IsUtf8-from_is_utf8 text e))
no_text text x false e h = rw e refl

-- a request's answer is the line's
pub answers_line : (line : List ℕ) (request : Option Command) (text : List ℕ) → request ≡ request_of line
    → AnswersRequest request text → Answer line text
unfolding Answer
answers_line line request text e h = subst (λ r. AnswersRequest r text) e h
