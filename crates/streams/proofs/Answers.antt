-- Answers after answers.
use Rattle.std.proofs.Common.{◌≡◌, ℕ, List, Option, [], ◌∷◌, ◌++◌, ◌+◌, length, refl, sym, ap, subst, ◌∙◌}
use Rattle.std.proofs.Common.{append_assoc, append-nil}
use Rattle.std.proofs.Math.Seq.{take-append-add}
use Rattle.std.specs.Io.KnownBytes.{Appends}
use Rattle.std.proofs.KnownBytes.{Appends-nil, Appends-trans}
use Rattle.streams.specs.Answers.{Answering, Within, Answered, GainsAnswers, WritesAnswers, WritesPart}

pub answered-append : (A : Answering) (a b : List (List ℕ)) (x y : List ℕ) → Answered A a x
    → Answered A b y → Answered A (a ++ b) (x ++ y)
answered-append A [] b x y p q = subst (Answered A b) (sym (ap (λ (l : List ℕ). l ++ y) p)) q
answered-append A (line ∷ a) b x y p q = record {
  answer = p.answer;
  rest = p.rest ++ y;
  answers = p.answers;
  is = ap (λ (l : List ℕ). l ++ y) p.is ∙ append_assoc p.answer p.rest y;
  rest_answers = answered-append A a b p.rest y p.rest_answers q;
}

pub answered-within : (A B : Answering) (lines : List (List ℕ)) (text : List ℕ) → Within A B → Answered A lines text
    → Answered B lines text
answered-within A B [] text w p = p
answered-within A B (line ∷ lines) text w p = record {
  answer = p.answer;
  rest = p.rest;
  answers = w line p.answer p.answers;
  is = p.is;
  rest_answers = answered-within A B lines p.rest w p.rest_answers;
}

pub gains-within : (A B : Answering) (lines : List (List ℕ)) (old new : List ℕ) → Within A B
    → GainsAnswers A lines old new → GainsAnswers B lines old new
gains-within A B lines old new w p = (p.0, answered-within A B lines p.0 w p.1, p.2)

pub writes-within : (A B : Answering) (lines : List (List ℕ)) (o n : Option (List ℕ)) → Within A B
    → WritesAnswers A lines o n → WritesAnswers B lines o n
writes-within A B lines o n w p = (p.0, answered-within A B lines p.0 w p.1, p.2)

pub part-within : (A B : Answering) (lines : List (List ℕ)) (o n : Option (List ℕ)) → Within A B
    → WritesPart A lines o n → WritesPart B lines o n
part-within A B lines o n w p = record {
  text = p.text;
  written = p.written;
  answers = answered-within A B lines p.text w p.answers;
  appends = p.appends;
}

-- an answer was put after what was there
pub gains_one : (A : Answering) (line answer old new : List ℕ) → A line answer → new ≡ old ++ answer
    → GainsAnswers A (line ∷ []) old new
gains_one A line answer old new p e = (
  answer,
  record { answer = answer; rest = []; answers = p; is = sym (append-nil answer); rest_answers = refl },
  e,
)

pub gains_more : (A : Answering) (a b : List (List ℕ)) (old mid new : List ℕ)
    → GainsAnswers A a old mid → GainsAnswers A b mid new
    → GainsAnswers A (a ++ b) old new
gains_more A a b old mid new p q = (
  p.0 ++ q.0,
  answered-append A a b p.0 q.0 p.1 q.1,
  q.2 ∙ ap (λ (l : List ℕ). l ++ q.0) p.2
      ∙ append_assoc old p.0 q.0,
)

-- what was put after nothing is the answers
pub gained : (A : Answering) (lines : List (List ℕ)) (old new : List ℕ) → GainsAnswers A lines old new
    → old ≡ [] → Answered A lines new
gained A lines old new p none = subst (Answered A lines) (sym (p.2 ∙ ap (λ (l : List ℕ). l ++ p.0) none)) p.1

pub writes_none : (A : Answering) (o : Option (List ℕ)) → WritesAnswers A [] o o
writes_none A o = ([], refl, Appends-nil o)

pub writes_more : (A : Answering) (a b : List (List ℕ)) (o n m : Option (List ℕ))
    → WritesAnswers A a o n → WritesAnswers A b n m
    → WritesAnswers A (a ++ b) o m
writes_more A a b o n m p q = (p.0 ++ q.0, answered-append A a b p.0 q.0 p.1 q.1, Appends-trans o n m _ _ p.2 q.2)

-- a beginning after whole answers
pub writes_part : (A : Answering) (a b : List (List ℕ)) (o n m : Option (List ℕ))
    → WritesAnswers A a o n → WritesPart A b n m
    → WritesPart A (a ++ b) o m
writes_part A a b o n m p q = record {
  text = p.0 ++ q.text;
  written = length p.0 + q.written;
  answers = answered-append A a b p.0 q.text p.1 q.answers;
  appends =
      subst (Appends o m) (sym (take-append-add p.0 q.text q.written)) (Appends-trans o n m _ _ p.2 q.appends);
}
