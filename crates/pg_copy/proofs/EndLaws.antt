-- Laws of an output that ends after a fault.
use Rattle.std.proofs.Common.{◌≡◌, ◌+◌, ℕ, List, [], ◌∷◌, ◌++◌, Option, None, Some, length, take, refl, subst, sym}
use Rattle.std.proofs.Common.{◌∙◌, ap, append-nil, arith, false, inl, inr, negsuc, true}
use Rattle.std.proofs.KnownBytes.{Appends-trans}
use Rattle.std.proofs.Math.Seq.{take-append-add, take-length}
use Rattle.std.specs.Io.KnownBytes.{Appends}
use Rattle.std.proofs.lemmas.Int.{ints}
use Rattle.std.specs.Int.{w16}
use Rattle.streams.specs.Answers.{Answered, IsDone, LinesAre}
use Rattle.streams.specs.Lines.{lines_of}
use Rattle.pg_base.specs.Cells.{Cell, IsBe, concat}
use Rattle.pg_copy.proofs.ReadingRuns.{of_input_weaker}
use Rattle.pg_copy.proofs.WrittenLaws.{Begun, take_front}
use Rattle.pg_copy.specs.Outputs.{EndsIn, WritesPart, WritesWhole}
use Rattle.pg_copy.specs.Rows.{IsFaultLine, OfInput}
use Rattle.pg_copy.specs.WrittenRows.{BeginsCopy, Stops, TupleOf, is_last, stopped}
use Rattle.pg_tuples.proofs.Continuations.{no_copy}
use Rattle.pg_tuples.specs.Tuples.{IsNoCopy, tuples}
use Rattle.pg_copy.specs.declared.columns.Column.{Column}
use Rattle.pg_copy.specs.declared.copy_fault.CopyFault.{CopyFault}
use Rattle.pg_copy.specs.declared.copy_fault.CopyFault.TheVariants.{Memory, Read, TooManyColumns, Write}

module _ (Is IsEnd : List ℕ → Type 0) (a b c : Option (List ℕ)) where
  -- the end was written after such bytes
  ended : WritesWhole Is a b → WritesWhole IsEnd b c → WritesWhole (EndsIn Is IsEnd) a c
  ended w end = (w.0 ++ end.0, (w.0, end.0, w.1, end.1, refl), Appends-trans a b c w.0 end.0 w.2 end.2)

  -- a part of the end was written after such bytes
  ended_part : WritesWhole Is a b → WritesPart IsEnd b c → WritesPart (EndsIn Is IsEnd) a c
  ended_part w end = (
    w.0 ++ end.0,
    length w.0 + end.1,
    (w.0, end.0, w.1, end.2, refl),
    subst (Appends a c) (sym (take-append-add w.0 end.0 end.1))
        (Appends-trans a b c w.0 (take end.1 end.0) w.2 end.3),
  )

-- all of such bytes are a part of them
pub all_of : (Is : List ℕ → Type 0) (a b : Option (List ℕ)) → WritesWhole Is a b → WritesPart Is a b
all_of Is a b w = (w.0, length w.0, w.1, subst (Appends a b) (sym (take-length w.0)) w.2)

-- a part of such bytes was written, which end in some way
part_before : (Is IsEnd : List ℕ → Type 0) (a c : Option (List ℕ)) → (end : List ℕ) × IsEnd end → WritesPart Is a c
    → WritesPart (EndsIn Is IsEnd) a c
part_before Is IsEnd a c end w = (
  w.0 ++ end.0,
  length (take w.1 w.0),
  (w.0, end.0, w.2, end.1, refl),
  subst (Appends a c) (sym (take_front w.1 w.0 end.0)) w.3,
)

-- reading

-- some line tells a fault
some_fault_line : (line : List ℕ) × IsFaultLine line
some_fault_line = (92 ∷ 46 ∷ 102 ∷ 97 ∷ 117 ∷ 108 ∷ 116 ∷ 10 ∷ [], ([], tt, refl))

module _ (Is : List ℕ → List ℕ → Type 0) (input a b c : Option (List ℕ)) where
  pub told : OfInput input (λ bytes. WritesWhole (Is bytes) a b) → WritesWhole IsFaultLine b c
      → OfInput input (λ bytes. WritesWhole (EndsIn (Is bytes) IsFaultLine) a c)
  told h end =
      of_input_weaker input (λ bytes. WritesWhole (Is bytes) a b)
      (λ bytes. WritesWhole (EndsIn (Is bytes) IsFaultLine) a c)
      (λ bytes w. ended (Is bytes) IsFaultLine a b c w end) h

  pub told_part : OfInput input (λ bytes. WritesWhole (Is bytes) a b) → WritesPart IsFaultLine b c
      → OfInput input (λ bytes. WritesPart (EndsIn (Is bytes) IsFaultLine) a c)
  told_part h end =
      of_input_weaker input (λ bytes. WritesWhole (Is bytes) a b)
      (λ bytes. WritesPart (EndsIn (Is bytes) IsFaultLine) a c)
      (λ bytes w. ended_part (Is bytes) IsFaultLine a b c w end) h

pub told_early : (Is : List ℕ → List ℕ → Type 0) (input a c : Option (List ℕ))
    → OfInput input (λ bytes. WritesPart (Is bytes) a c)
    → OfInput input (λ bytes. WritesPart (EndsIn (Is bytes) IsFaultLine) a c)
told_early Is input a c h =
    of_input_weaker input (λ bytes. WritesPart (Is bytes) a c)
    (λ bytes. WritesPart (EndsIn (Is bytes) IsFaultLine) a c)
    (λ bytes w. part_before (Is bytes) IsFaultLine a c some_fault_line w) h

-- writing

-- the lines that end in what was read are lines of the input
done_lines : (input left : Option (List ℕ)) (line : List ℕ) (done : List (List ℕ)) → IsDone input left line done
    → (rest : List (List ℕ)) × LinesAre input (done ++ rest)
done_lines None left line done is = ([], tt)
done_lines (Some bytes) None line done is = absurd is
done_lines (Some bytes) (Some left) line done is =
    let rest = lines_of ((line ++ left) ++ []) in
    (rest, subst (λ s. lines_of s ≡ done ++ rest) (append-nil bytes) (is []))

-- the end of a COPY that was stopped
abbrev IsStopped : List ℕ → Type 0
IsStopped end = end ≡ stopped

module _ (columns : List Column) (input left a b c : Option (List ℕ)) where
  whole : (done : List (List ℕ)) → WritesWhole (BeginsCopy columns done) a b → Appends b c stopped
      → WritesWhole (EndsIn (BeginsCopy columns done) IsStopped) a c
  whole done w more = ended (BeginsCopy columns done) IsStopped a b c w (stopped, refl, more)

  part : (done : List (List ℕ)) (k : ℕ) → WritesWhole (BeginsCopy columns done) a b → Appends b c (take k stopped)
      → WritesPart (EndsIn (BeginsCopy columns done) IsStopped) a c
  part done k w more = ended_part (BeginsCopy columns done) IsStopped a b c w (stopped, k, refl, more)

  -- it comes after complete tuples
  pub stops_whole : (fault : CopyFault) → Begun columns input left a b fault → false ≡ is_last fault
      → Appends b c stopped → Stops columns input left a c fault
  stops_whole TooManyColumns s open_ more = let bad : ⊥ = cc in absurd bad
  stops_whole Write s open_ more = let bad : ⊥ = cc in absurd bad
  stops_whole Read s open_ more = (s.0, s.1, s.2, s.3, whole s.2 s.4 more)
  stops_whole Memory s open_ more = (s.0, s.1, s.2, whole s.0 s.3 more)
  stops_whole fault s open_ more = (s.0, s.1, s.2, s.3, whole s.0 s.4 more, s.5)

  -- or a part of it
  pub stops_part : (fault : CopyFault) (k : ℕ) → Begun columns input left a b fault → false ≡ is_last fault
      → Appends b c (take k stopped) → Stops columns input left a c Write
  stops_part TooManyColumns k s open_ more = let bad : ⊥ = cc in absurd bad
  stops_part Write k s open_ more = let bad : ⊥ = cc in absurd bad
  stops_part Read k s open_ more =
      let lines = done_lines input left s.0 s.2 s.3 in
      (s.2, lines.0, lines.1, inr (part s.2 k s.4 more))
  stops_part Memory k s open_ more = (s.0, s.1, s.2, inr (part s.0 k s.3 more))
  stops_part fault k s open_ more = (s.0, s.1 ∷ s.2, s.3, inr (part s.0 k s.4 more))

-- however what is left of a COPY that was stopped goes on, it is no COPY

stopped_is : IsBe w16 stopped (negsuc 32767)
stopped_is = (omega (arith, ints), refl)

-- the tuples of lines are those of rows
rows_of : (columns : List Column) (lines : List (List ℕ)) (text : List ℕ) → Answered (TupleOf columns) lines text
    → (rows : List (List Cell)) × (tuples rows ≡ Some text)
rows_of columns [] text is = ([], ap Some (sym is))
rows_of columns (line ∷ lines) text answered =
    let cells = answered.answers.0 in
    let later = rows_of columns lines answered.rest answered.rest_answers in (
      cells ∷ later.0,
      ap (λ t. concat t (tuples later.0)) answered.answers.2 ∙ ap (concat (Some answered.answer)) later.1
          ∙ ap Some (sym answered.is),
    )

module _ (columns : List Column) (input left a b c : Option (List ℕ)) where
  left_over : (done : List (List ℕ)) → WritesWhole (BeginsCopy columns done) a b → Appends b c stopped
      → WritesWhole IsNoCopy a c
  left_over done (bytes, (text, answered, is), w) more =
      let rows = rows_of columns done text answered in (
        bytes ++ stopped,
        subst (λ x. IsNoCopy (x ++ stopped)) (sym is) (no_copy rows.0 text stopped 32766 rows.1 stopped_is),
        Appends-trans a b c bytes stopped w more,
      )

  pub stops_no_copy : (fault : CopyFault) → Begun columns input left a b fault → false ≡ is_last fault
      → Appends b c stopped → WritesWhole IsNoCopy a c
  stops_no_copy TooManyColumns s open_ more = let bad : ⊥ = cc in absurd bad
  stops_no_copy Write s open_ more = let bad : ⊥ = cc in absurd bad
  stops_no_copy Read s open_ more = left_over s.2 s.4 more
  stops_no_copy Memory s open_ more = left_over s.0 s.3 more
  stops_no_copy fault s open_ more = left_over s.0 s.4 more

-- after a failed write, a part of a COPY is there
stops_early : (columns : List Column) (input left a c : Option (List ℕ)) → Begun columns input left a c Write
    → Stops columns input left a c Write
stops_early columns input left a c (done, rest, are, inl w) = (done, rest, are, inl w)
stops_early columns input left a c (done, rest, are, inr w) =
    (done, rest, are, inr (part_before (BeginsCopy columns done) IsStopped a c (stopped, refl) w))

pub stops_last : (columns : List Column) (input left a c : Option (List ℕ)) (fault : CopyFault) → true ≡ is_last fault
    → Begun columns input left a c fault → Stops columns input left a c fault
stops_last columns input left a c TooManyColumns last s = s
stops_last columns input left a c Write last s = stops_early columns input left a c s
stops_last columns input left a c fault last s = let bad : ⊥ = cc in absurd bad
