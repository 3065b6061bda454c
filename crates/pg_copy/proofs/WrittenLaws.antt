-- Laws of what is written of a binary COPY.
use Rattle.std.proofs.Common.{◌≡◌, ◌≢◌, ◌≤◌, ◌+◌, ℕ, zero, suc, List, [], ◌∷◌, ◌++◌, Option, None, Some, length}
use Rattle.std.proofs.Common.{take, refl}
use Rattle.std.proofs.Common.{ap, sym, ◌∙◌, append_assoc, subst, ◌⊎◌, inl, inr}
use Rattle.std.proofs.Math.Seq.{take-append-add}
use Rattle.std.proofs.lemmas.List.{take-append-le}
use Rattle.std.specs.Io.KnownBytes.{Appends}
use Rattle.std.proofs.KnownBytes.{Appends-trans}
use Rattle.streams.specs.Answers.{AnswersBefore, AnswersGiven, AnswersPart, AnswersSome, IfRefused, LinesAre}
use Rattle.streams.specs.Answers.{WritesAnswers}
use Rattle.streams.specs.Answers as answers
use Rattle.streams.specs.Lines.{lines_of}
use Rattle.streams.specs.declared.lines.RunFault.{RunFault}
use Rattle.streams.specs.declared.lines.RunFault.TheVariants as run
use Rattle.pg_copy.specs.Outputs.{WritesPart, WritesWhole}
use Rattle.pg_tuples.specs.Tuples.{header, trailer}
use Rattle.pg_copy.specs.WrittenRows.{BeginsCopy, CopyOf, LineFault, StopsWith, TupleOf, fault_of}
use Rattle.pg_copy.specs.declared.columns.Column.{Column}
use Rattle.pg_copy.specs.declared.copy_fault.CopyFault.{CopyFault}
use Rattle.pg_copy.specs.declared.copy_fault.CopyFault.TheVariants.{Memory, Read, TooManyColumns, Write}

-- a fault that leaves the header and complete tuples
abbrev pub Begun : List Column → Option (List ℕ) → Option (List ℕ) → Option (List ℕ) → Option (List ℕ) → CopyFault
    → Type 0
Begun columns = StopsWith (BeginsCopy columns) columns

pub take_front : (j : ℕ) (xs ys : List ℕ) → take (length (take j xs)) (xs ++ ys) ≡ take j xs
take_front zero xs ys = refl
take_front (suc j) [] ys = refl
take_front (suc j) (x ∷ xs) ys = ap (λ (l : List ℕ). x ∷ l) (take_front j xs ys)

pub some_lines : (input : Option (List ℕ)) → (rest : List (List ℕ)) × LinesAre input rest
some_lines None = ([], tt)
some_lines (Some bytes) = (lines_of bytes, refl)

module _ (columns : List Column) where
  pub header_part : (a b : Option (List ℕ)) (k : ℕ) → k ≤ length header → Appends a b (take k header)
      → WritesPart (CopyOf columns []) a b
  header_part a b k h w = (
    header ++ trailer,
    k,
    (header, ([], refl, refl), refl),
    subst (Appends a b) (sym (take-append-le k header trailer h)) w,
  )

  module _ (lines : List (List ℕ)) (a b c : Option (List ℕ)) (begun : Appends a b header) where
    pub begins : WritesAnswers (TupleOf columns) lines b c → WritesWhole (BeginsCopy columns lines) a c
    begins w = (header ++ w.0, (w.0, w.1, refl), Appends-trans a b c header w.0 begun w.2)

    pub tuples_part : answers.WritesPart (TupleOf columns) lines b c → WritesPart (CopyOf columns lines) a c
    tuples_part w =
        let written = take w.written w.text in
        let is : take (length header + length written) ((header ++ w.text) ++ trailer) ≡ header ++ written =
        ap (take (length header + length written)) (append_assoc header w.text trailer)
        ∙ take-append-add header (w.text ++ trailer) (length written)
        ∙ ap (λ (l : List ℕ). header ++ l) (take_front w.written w.text trailer) in (
          (header ++ w.text) ++ trailer,
          length header + length written,
          (header ++ w.text, (w.text, w.answers, refl), refl),
          subst (Appends a c) (sym is) (Appends-trans a b c header written begun w.appends),
        )

    module _ (d : Option (List ℕ)) (w : WritesAnswers (TupleOf columns) lines b c) where
      pub ends : Appends c d trailer → WritesWhole (CopyOf columns lines) a d
      ends t = (
        (header ++ w.0) ++ trailer,
        (header ++ w.0, (w.0, w.1, refl), refl),
        Appends-trans a c d (header ++ w.0) trailer (Appends-trans a b c header w.0 begun w.2) t,
      )

      pub trailer_part : (k : ℕ) → Appends c d (take k trailer) → WritesPart (CopyOf columns lines) a d
      trailer_part k t = (
        (header ++ w.0) ++ trailer,
        length (header ++ w.0) + k,
        (header ++ w.0, (w.0, w.1, refl), refl),
        subst (Appends a d) (sym (take-append-add (header ++ w.0) trailer k))
            (Appends-trans a c d (header ++ w.0) (take k trailer) (Appends-trans a b c header w.0 begun w.2) t),
      )

  module _ (input left a b c : Option (List ℕ)) (begun : Appends a b header) where
    stops_before : (fault : CopyFault) → AnswersBefore (TupleOf columns) (LineFault columns) fault input b c
        → Begun columns input left a c fault
    stops_before Read (done, line, rest, are, w, refused) = absurd refused
    stops_before Write (done, line, rest, are, w, refused) = absurd refused
    stops_before TooManyColumns (done, line, rest, are, w, refused) = absurd refused
    stops_before Memory (done, line, rest, are, w, refused) = (done, line ∷ rest, are, begins done a b c begun w)
    stops_before fault (done, line, rest, are, w, refused) =
        (done, line, rest, are, begins done a b c begun w, refused)

    stops_refused : (fault : CopyFault) → AnswersSome (TupleOf columns) input b c
        → (fault ≡ Memory) ⊎ AnswersBefore (TupleOf columns) (LineFault columns) fault input b c
        → Begun columns input left a c fault
    stops_refused fault s (inl memory) =
        subst (Begun columns input left a c) (sym memory) (s.0, s.1, s.2, begins s.0 a b c begun s.3)
    stops_refused fault s (inr before) = stops_before fault before

    pub stops : (e : RunFault CopyFault) → (e ≢ run.Write → AnswersSome (TupleOf columns) input b c)
        → IfRefused e (λ fault. (fault ≡ Memory)
        ⊎ AnswersBefore (TupleOf columns) (LineFault columns) fault input b c)
        → (e ≡ run.Read → AnswersGiven (TupleOf columns) input left b c)
        → (e ≡ run.Write → AnswersPart (TupleOf columns) input b c) → Begun columns input left a c (fault_of e)
    stops run.Read some refused given part =
        let g = given refl in (g.0, g.1, g.2.0, g.2.1, begins g.2.0 a b c begun g.2.2)
    stops run.Write some refused given part =
        let p = part refl in (p.0, p.1, p.2, inl (tuples_part p.0 a b c begun p.3))
    stops (run.Refused fault) some refused given part = stops_refused fault (some (λ e. cc)) refused
