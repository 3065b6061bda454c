-- The answers to lines, and what a run leaves in its writer, if the bytes of the reader and the writer are known.
use Rattle.std.specs.Prelude.{◌≡◌, ℕ, List, [], ◌∷◌, ◌++◌, take, Option, None, Some}
use Rattle.std.specs.Io.KnownBytes.{Appends, Keeps}
use Rattle.streams.specs.Lines.{lines_of, IsOneLine}
use Rattle.streams.specs.declared.lines.RunFault.{RunFault}
use Rattle.streams.specs.declared.lines.RunFault.TheVariants.{Read, Write, Refused}

-- which texts answer a line, or which faults refuse it
abbrev pub Saying : Type 0 → Type 1
Saying A = List ℕ → A → Type 0

-- which texts answer a line
abbrev pub Answering : Type 1
Answering = Saying (List ℕ)

-- what the first says about a line the second says too
abbrev pub Within : {A : Type 0} → Saying A → Saying A → Type 0
Within {A} P Q = (line : List ℕ) (x : A) → P line x → Q line x

-- P holds of the fault with which a line was refused, if one was
abbrev pub IfRefused : {F : Type 0} → RunFault F → (F → Type 0) → Type 0
IfRefused Read P = Unit {0}
IfRefused Write P = Unit {0}
IfRefused (Refused fault) P = P fault

-- the text is an answer to the line, and then the rest, which has its property
pub record AnswerAndRest (Answer : Answering) (line : List ℕ) (Rest : List ℕ → Type 0) (text : List ℕ) : Type 0 where
  -- the answer
  pub answer : List ℕ
  -- what comes after it
  pub rest : List ℕ
  -- it answers the line
  pub answers : Answer line answer
  -- they follow one another
  pub is : text ≡ answer ++ rest
  -- the rest has its property
  pub rest_answers : Rest rest

-- the text is an answer to each of these lines, in their order, and nothing else
abbrev pub Answered : Answering → List (List ℕ) → List ℕ → Type 0
Answered Answer [] text = text ≡ []
Answered Answer (line ∷ lines) text = AnswerAndRest Answer line (λ rest. Answered Answer lines rest) text

-- an answer to each of these lines was appended
abbrev pub GainsAnswers : Answering → List (List ℕ) → List ℕ → List ℕ → Type 0
GainsAnswers Answer lines old new = (text : List ℕ) × Answered Answer lines text × (new ≡ old ++ text)

-- an answer to each of these lines was written, and nothing else
abbrev pub WritesAnswers : Answering → List (List ℕ) → Option (List ℕ) → Option (List ℕ) → Type 0
WritesAnswers Answer lines old new = (text : List ℕ) × Answered Answer lines text × Appends old new text

-- a prefix of such a text was written
pub record WritesPart (Answer : Answering) (lines : List (List ℕ)) (old new : Option (List ℕ)) : Type 0 where
  -- the text
  pub text : List ℕ
  -- how many of its bytes were written
  pub written : ℕ
  -- it answers the lines
  pub answers : Answered Answer lines text
  -- that many of its bytes were appended
  pub appends : Appends old new (take written text)

-- these are the lines of the input, if it is known
abbrev pub LinesAre : Option (List ℕ) → List (List ℕ) → Type 0
LinesAre None lines = Unit {0}
LinesAre (Some bytes) lines = lines_of bytes ≡ lines

-- each line of the input is answered, and nothing else is written
abbrev pub AnswersAll : Answering → Option (List ℕ) → Option (List ℕ) → Option (List ℕ) → Type 0
AnswersAll Answer input old new = (lines : List (List ℕ)) × LinesAre input lines × WritesAnswers Answer lines old new

-- some first lines of the input are answered, each by a complete answer
abbrev pub AnswersSome : Answering → Option (List ℕ) → Option (List ℕ) → Option (List ℕ) → Type 0
AnswersSome Answer input old new =
    (done rest : List (List ℕ)) × LinesAre input (done ++ rest) × WritesAnswers Answer done old new

-- the lines of the input before one are answered, each by a complete answer, and that one is refused by the fault
abbrev pub AnswersBefore : {F : Type 0} → Answering → Saying F → F → Option (List ℕ) → Option (List ℕ)
    → Option (List ℕ) → Type 0
AnswersBefore Answer Refuses fault input old new =
    (done : List (List ℕ)) × (line : List ℕ) × (rest : List (List ℕ)) × LinesAre input (done ++ line ∷ rest)
    × WritesAnswers Answer done old new × Refuses line fault

-- a prefix of the answers to some first lines of the input is written
abbrev pub AnswersPart : Answering → Option (List ℕ) → Option (List ℕ) → Option (List ℕ) → Type 0
AnswersPart Answer input old new =
    (done rest : List (List ℕ)) × LinesAre input (done ++ rest) × WritesPart Answer done old new

-- done are the first lines of xs, whatever follows xs, and line is the rest of xs
abbrev pub Splits : List ℕ → List (List ℕ) → List ℕ → Type 0
Splits xs done line = (more : List ℕ) → lines_of (xs ++ more) ≡ done ++ lines_of (line ++ more)

-- done are the first lines of xs, whatever comes after it
abbrev pub Begins : List ℕ → List (List ℕ) → Type 0
Begins xs done = (more : List ℕ) → (rest : List (List ℕ)) × (lines_of (xs ++ more) ≡ done ++ rest)

-- the lines that end in xs were answered after what was pending, and line is what is left of xs
abbrev pub TakesLines : Answering → List ℕ → List ℕ → List ℕ → List ℕ → Type 0
TakesLines Answer xs line old new = (done : List (List ℕ)) × Splits xs done line × GainsAnswers Answer done old new

-- some first lines of xs were answered after what was pending
abbrev pub TakesSome : Answering → List ℕ → List ℕ → List ℕ → Type 0
TakesSome Answer xs old new = (done : List (List ℕ)) × Begins xs done × GainsAnswers Answer done old new

-- what a run leaves after a fault at the last line: nothing is written if the line is refused, and a prefix of the
-- answer if a write failed
abbrev pub EndsBy : {F : Type 0} → Answering → Saying F → List ℕ → Option (List ℕ) → Option (List ℕ) → RunFault F
    → Type 0
EndsBy Answer Refuses line old new Read = ⊥
EndsBy Answer Refuses line old new Write = WritesPart Answer (lines_of line) old new
EndsBy Answer Refuses line old new (Refused fault) =
    (lines_of line ≡ line ∷ []) × Keeps old new × Refuses line fault

-- some first lines of xs were answered after what was pending, and the next one is refused by the fault
abbrev pub TakesBefore : {F : Type 0} → Answering → Saying F → F → List ℕ → List ℕ → List ℕ → Type 0
TakesBefore Answer Refuses fault xs old new =
    (done : List (List ℕ)) × (line : List ℕ) × Begins xs (done ++ line ∷ []) × GainsAnswers Answer done old new
    × Refuses line fault

-- done are the lines of the input before line and what the reader has left, which begin the others, whatever follows
-- the input
abbrev pub IsDone : Option (List ℕ) → Option (List ℕ) → List ℕ → List (List ℕ) → Type 0
IsDone None left line done = Unit {0}
IsDone (Some bytes) None line done = ⊥
IsDone (Some bytes) (Some left) line done = Splits bytes done (line ++ left)

-- so far the writer has answered the lines before line and what the reader has left
abbrev pub IsUnderWay : Answering → Option (List ℕ) → Option (List ℕ) → Option (List ℕ) → Option (List ℕ) → List ℕ
    → Type 0
IsUnderWay Answer input left old new line =
    (done : List (List ℕ)) × IsDone input left line done × WritesAnswers Answer done old new

-- each line that ends in what was read is answered: what was read after them is the beginning of one line
abbrev pub AnswersGiven : Answering → Option (List ℕ) → Option (List ℕ) → Option (List ℕ) → Option (List ℕ) → Type 0
AnswersGiven Answer input left old new = (line : List ℕ) × IsOneLine line × IsUnderWay Answer input left old new line
