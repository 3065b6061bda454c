-- What a run over a binary COPY has read and written.
use Rattle.std.proofs.Common.{◌≡◌, ◌+◌, ℕ, List, [], ◌++◌, Option, Some, None, length, take, Result, OnOk, OnErr, Ok}
use Rattle.std.proofs.Common.{Err}
use Rattle.std.proofs.Common.{ap, sym, subst, ◌∙◌, append_assoc, append-nil}
use Rattle.std.proofs.KnownBytes.{Appends-trans, Consumes-trans}
use Rattle.std.proofs.Math.Seq.{take-append-add, take-length}
use Rattle.std.specs.Io.KnownBytes.{Appends, Consumes, IsAtEnd}
use Rattle.pg_copy.proofs.ReadingLaws.{started}
use Rattle.pg_copy.specs.Outputs.{WritesPart, WritesWhole}
use Rattle.pg_copy.proofs.StopLaws.{refused_at, split_memory, stops_after, truncated_at}
use Rattle.pg_copy.specs.ReadingSteps.{Advances, Awaits, HasRead, StopsAt}
use Rattle.pg_copy.specs.Refusals.{Refused, StopsAfter, UnlessMemory}
use Rattle.pg_copy.specs.Rows.{IsCopyOf, OfInput, StartsCopyOf}
use Rattle.pg_copy.specs.declared.columns.Column.{Column}
use Rattle.pg_copy.specs.declared.copy_fault.CopyFault.{CopyFault}
use Rattle.pg_copy.specs.declared.copy_fault.CopyFault.TheVariants.{Truncated}
use Rattle.pg_copy.specs.declared.read.Place.{Place}
use Rattle.pg_copy.specs.declared.read.Place.TheVariants.{End}

-- what is said of the bytes that were read, whatever comes after them, holds of the input
of_input : (a b : Option (List ℕ)) (read : List ℕ) (Holds : List ℕ → Type 0) → Consumes a b read
    → ((rest : List ℕ) → Holds (read ++ rest)) → OfInput a Holds
of_input None b read Holds c h = (read ++ [], h [])
of_input (Some x) None read Holds c h = absurd c
of_input (Some x) (Some y) read Holds c h = subst Holds (sym c) (h y)

-- where nothing is left, it is what was read
at_end : (a b : Option (List ℕ)) (read : List ℕ) (Holds : List ℕ → Type 0) → Consumes a b read → IsAtEnd b
    → Holds read → OfInput a Holds
at_end None b read Holds c e h = (read, h)
at_end (Some x) None read Holds c e h = absurd c
at_end (Some x) (Some y) read Holds c e h =
    subst Holds (sym (c ∙ ap (λ s. read ++ s) e ∙ append-nil read)) h

pub of_input_weaker : (a : Option (List ℕ)) (P Q : List ℕ → Type 0) → ((s : List ℕ) → P s → Q s) → OfInput a P
    → OfInput a Q
of_input_weaker None P Q f h = (h.0, f h.0 h.1)
of_input_weaker (Some s) P Q f h = f s h

module _ (columns : List Column) (a u : Option (List ℕ)) where
  -- what was read is what is held and what stands before it, of whose rows the lines were written
  abbrev pub UnderWay : Place → ℕ → List ℕ → Option (List ℕ) → Option (List ℕ) → Type 0
  UnderWay place count held b v =
      (s : List ℕ) × (lines : List ℕ) × HasRead columns place count s lines × Consumes a b (s ++ held)
      × Appends u v lines

  starts : (place : Place) (count : ℕ) (s held rest lines : List ℕ) → HasRead columns place count s lines
      → StartsCopyOf columns ((s ++ held) ++ rest) lines
  starts place count s held rest lines h =
      subst (λ x. StartsCopyOf columns x lines) (sym (append_assoc s held rest))
      (started columns place count s (held ++ rest) lines h)

  pub stopped : (place : Place) (count : ℕ) (held : List ℕ) (b v : Option (List ℕ)) → UnderWay place count held b v
      → OfInput a (λ bytes. WritesWhole (StartsCopyOf columns bytes) u v)
  stopped place count held b v (s, lines, h, read, written) =
      of_input a b (s ++ held) (λ bytes. WritesWhole (StartsCopyOf columns bytes) u v) read
      (λ rest. (lines, starts place count s held rest lines h, written))

  pub stopped_part : (place : Place) (count : ℕ) (held : List ℕ) (b v : Option (List ℕ))
      → UnderWay place count held b v
      → OfInput a (λ bytes. WritesPart (StartsCopyOf columns bytes) u v)
  stopped_part place count held b v (s, lines, h, read, written) =
      of_input a b (s ++ held) (λ bytes. WritesPart (StartsCopyOf columns bytes) u v) read
      (λ rest. (
        lines,
        length lines,
        starts place count s held rest lines h,
        subst (Appends u v) (sym (take-length lines)) written,
      ))

  pub ended : (place : Place) (count : ℕ) (held : List ℕ) (b d v : Option (List ℕ)) → UnderWay place count held b v
      → place ≡ End → held ≡ [] → Consumes b d [] → IsAtEnd d → OfInput a (λ bytes. WritesWhole
      (IsCopyOf columns bytes) u v)
  ended place count held b d v (s, lines, h, read, written) end none nothing last =
      let all : (s ++ held) ++ [] ≡ s = append-nil (s ++ held) ∙ ap (λ x. s ++ x) none ∙ append-nil s in
      at_end a d s (λ bytes. WritesWhole (IsCopyOf columns bytes) u v)
      (subst (Consumes a d) all (Consumes-trans a b d (s ++ held) [] read nothing)) last
      (lines, subst (λ p. HasRead columns p count s lines) end h, written)

  -- why it stops is no matter of the bytes
  pub stopped_anyhow : (f : CopyFault) → ((bytes lines : List ℕ) → StopsAfter columns bytes lines f) → (v : Option
      (List ℕ))
      → OfInput a (λ bytes. WritesWhole (StartsCopyOf columns bytes) u v)
      → OfInput a (λ bytes. WritesWhole (λ lines. StopsAfter columns bytes lines f) u v)
  stopped_anyhow f all v h =
      of_input_weaker a (λ bytes. WritesWhole (StartsCopyOf columns bytes) u v)
      (λ bytes. WritesWhole (λ lines. StopsAfter columns bytes lines f) u v)
      (λ bytes w. (w.0, all bytes w.0, w.2)) h

  -- the input ends where nothing whole is to come
  pub cut_off : (place : Place) (count : ℕ) (held : List ℕ) (b d v : Option (List ℕ)) → UnderWay place count held b v
      → Awaits columns place held → (place ≡ End → ⊥) → Consumes b d [] → IsAtEnd d
      → OfInput a (λ bytes. WritesWhole (λ lines. StopsAfter columns bytes lines Truncated) u v)
  cut_off place count held b d v (s, lines, h, read, written) awaits open_ nothing last =
      at_end a d (s ++ held) (λ bytes. WritesWhole (λ lines. StopsAfter columns bytes lines Truncated) u v)
      (subst (Consumes a d) (append-nil (s ++ held)) (Consumes-trans a b d (s ++ held) [] read nothing)) last
      (lines, truncated_at columns place count s held lines h awaits open_, written)

  -- what is held is refused
  pub refused_there : (place : Place) (rows : ℕ) (held : List ℕ) (b v : Option (List ℕ)) (f : CopyFault)
      → UnderWay place rows held b v → StopsAt columns place rows held f
      → OfInput a (λ bytes. WritesWhole (λ lines. StopsAfter columns bytes lines f) u v)
  refused_there place rows held b v f (s, lines, h, read, written) refused =
      of_input a b (s ++ held) (λ bytes. WritesWhole (λ lines. StopsAfter columns bytes lines f) u v) read
      (λ rest. (
        lines,
        stops_after columns ((s ++ held) ++ rest) lines f (subst (λ x. Refused columns x lines f)
            (sym (append_assoc s held rest)) (refused_at rest columns place rows s held lines f h refused)),
        written,
      ))

  module _ (place next : Place) (i j : ℕ) (held block left new : List ℕ) (b d v w : Option (List ℕ))
      (h : UnderWay place i held b v) (read : Consumes b d block)
      (step : Advances columns place i (held ++ block) [] next j left new) where
    moved : Consumes a d ((h.0 ++ step.0) ++ left)
    moved =
        let s = h.0 in
        let t = step.0 in
        subst (Consumes a d) (append_assoc s held block ∙ ap (λ x. s ++ x) step.2 ∙ sym (append_assoc s t left))
        (Consumes-trans a b d (s ++ held) block h.3 read)

    pub taken : Appends v w new → UnderWay next j left d w
    taken written = (
      h.0 ++ step.0,
      h.1 ++ step.1,
      step.4 h.0 h.1 h.2,
      moved,
      subst (λ x. Appends u w (h.1 ++ x)) step.3 (Appends-trans u v w h.1 new h.4 written),
    )

    pub taken_part : (k : ℕ) → Appends v w (take k new)
        → OfInput a (λ bytes. WritesPart (StartsCopyOf columns bytes) u w)
    taken_part k written =
        of_input a d ((h.0 ++ step.0) ++ left) (λ bytes. WritesPart (StartsCopyOf columns bytes) u w) moved
        (λ rest. (
          h.1 ++ new,
          length h.1 + k,
          subst (λ x. StartsCopyOf columns (((h.0 ++ step.0) ++ left) ++ rest) (h.1 ++ x)) (sym step.3)
              (starts next j (h.0 ++ step.0) left rest (h.1 ++ step.1) (step.4 h.0 h.1 h.2)),
          subst (Appends u w) (sym (take-append-add h.1 new k)) (Appends-trans u v w h.1 (take k new) h.4 written),
        ))

-- whether a block was taken whole or not, what was taken of it is known
pub taken_either : {E : Type 0} (columns : List Column) (place next : Place) (i j : ℕ) (old lines left new : List ℕ)
    (result : Result (Unit {0}) E) → OnOk result (Advances columns place i old lines next j left new)
    → OnErr result ((rest : List ℕ) × Advances columns place i old lines next j rest new)
    → (rest : List ℕ) × Advances columns place i old lines next j rest new
taken_either columns place next i j old lines left new (Ok done) p q = (left, p)
taken_either columns place next i j old lines left new (Err e) p q = q

-- of these columns, and before any line
pub begun : (columns same : List Column) (place next : Place) (i j : ℕ) (old lines left new : List ℕ) → same ≡ columns
    → lines ≡ [] → Advances same place i old lines next j left new → Advances columns place i old [] next j left new
begun columns same place next i j old lines left new e none step =
    subst (λ x. Advances x place i old [] next j left new) e
    (subst (λ x. Advances same place i old x next j left new) none step)

-- what was taken of a block whose rest is refused
module _ (columns same : List Column) (a u : Option (List ℕ)) (place next : Place) (i j : ℕ)
    (held block lines new : List ℕ) (b d v w : Option (List ℕ)) where
  pub refused_block : (f : CopyFault) → UnderWay columns a u place i held b v → Consumes b d block → Appends v w new
      → same ≡ columns → lines ≡ [] → OfInput a (λ bytes. WritesWhole (StartsCopyOf columns bytes) u w)
      → UnlessMemory (λ e. (rest : List ℕ) × Advances same place i (held ++ block) lines next j rest new
      × StopsAt same next j rest e) f
      → OfInput a (λ bytes. WritesWhole (λ lines. StopsAfter columns bytes lines f) u w)
  refused_block f h read written e none stopped h_refused =
      split_memory (λ e. (rest : List ℕ) × Advances same place i (held ++ block) lines next j rest new
      × StopsAt same next j rest e) (OfInput a (λ bytes. WritesWhole (λ lines. StopsAfter columns bytes lines f) u w))
      f
      h_refused
      (λ memory. stopped_anyhow columns a u f
      (λ bytes lines. subst (StopsAfter columns bytes lines) (sym memory) tt) w stopped)
      (λ refused.
      let after = taken columns a u place next i j held block refused.0 new b d v w h read
      (begun columns same place next i j (held ++ block) lines refused.0 new e none refused.1) written in
      refused_there columns a u next j refused.0 d w f after
      (subst (λ x. StopsAt x next j refused.0 f) e refused.2))
