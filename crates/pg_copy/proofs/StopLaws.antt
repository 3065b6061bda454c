-- Laws of why reading a binary COPY stops, whatever bytes come after those that were read.
use Rattle.std.proofs.Common.{◌≡◌, ◌≢◌, ◌+◌, ℕ, List, [], ◌∷◌, ◌++◌, length, inl, inr, refl, sym, ap, subst}
use Rattle.std.proofs.Common.{◌∙◌, append_assoc, append-nil, arith}
use Rattle.std.specs.Int.{w16}
use Rattle.pg_base.specs.Cells.{be}
use Rattle.pg_copy.specs.ReadingSteps.{Awaits, HasRead, StopsAt}
use Rattle.pg_copy.specs.Refusals.{HeaderRefused, IsTruncated, Refused, StopsAfter, TupleRefused}
use Rattle.pg_copy.specs.Refusals.{UnlessMemory, header_fault, next_row, row_count, tuple_fault}
use Rattle.pg_tuples.specs.Reading.{AwaitsExtension, EndsInHeader}
use Rattle.pg_tuples.specs.Refusals.{HasNegativeLength, RefusesHeader, RefusesTupleOf}
use Rattle.pg_tuples.specs.Tuples.{CountThen, FramesThen, trailer}
use Rattle.pg_tuples.specs.declared.header.HeaderFault.{HeaderFault}
use Rattle.pg_tuples.specs.declared.header.HeaderFault.TheVariants as header
use Rattle.pg_tuples.specs.declared.tuples.TupleFault.{TupleFault}
use Rattle.pg_tuples.specs.declared.tuples.TupleFault.TheVariants as tuple
use Rattle.pg_copy.specs.declared.columns.Column.{Column}
use Rattle.pg_copy.specs.declared.copy_fault.CopyFault.{CopyFault}
use Rattle.pg_copy.specs.declared.copy_fault.CopyFault.TheVariants as stop
use Rattle.pg_copy.specs.declared.copy_fault.Row.{Row}
use Rattle.pg_copy.specs.declared.copy_fault.Row.TheVariants.{Tuple}
use Rattle.pg_copy.specs.declared.read.Place.{Place}
use Rattle.pg_copy.specs.declared.read.Place.TheVariants.{Header, Extension, Tuples, End}

pub split_memory : (Holds : CopyFault → Type 0) (Q : Type 0) (f : CopyFault) → UnlessMemory Holds f
    → (f ≡ stop.Memory → Q) → (Holds f → Q) → Q
split_memory Holds Q stop.Memory h memory other = memory refl
split_memory Holds Q f h memory other = other h

same_row : (count rows : ℕ) → count ≡ row_count rows → next_row count ≡ next_row rows
same_row count rows e = let same : row_count (count + 1) ≡ row_count (rows + 1) = omega (arith, e) in ap Tuple same

module _ (more : List ℕ) where
  frames_more : (s : List ℕ) (n : ℕ) (rest : List ℕ) → FramesThen s n rest → FramesThen (s ++ more) n (rest ++ more)
  frames_more s n rest (cells, bytes, count, are, is) =
      (cells, bytes, count, are, ap (λ (l : List ℕ). l ++ more) is ∙ append_assoc bytes rest more)

  header_more : (s : List ℕ) (e : HeaderFault) → RefusesHeader s e → RefusesHeader (s ++ more) e
  header_more s header.Signature h = λ m rest is. h (more ++ m) rest (sym (append_assoc s more m) ∙ is)
  header_more s header.Oids (high, low, a, b, rest, is, h) =
      (high, low, a, b, rest ++ more, ap (λ (l : List ℕ). l ++ more) is, h)
  header_more s header.Flags (high, low, a, b, rest, is, h) =
      (high, low, a, b, rest ++ more, ap (λ (l : List ℕ). l ++ more) is, h)
  header_more s header.Extension (a, b, n, len, rest, number, is) = (
    a,
    b,
    n,
    len,
    rest ++ more,
    number,
    ap (λ (l : List ℕ). l ++ more) is
        ∙ ap (λ (l : List ℕ). 80 ∷ 71 ∷ 67 ∷ 79 ∷ 80 ∷ 89 ∷ 10 ∷ 255 ∷ 13 ∷ 10 ∷ 0 ∷ 0 ∷ 0 ∷ a ∷ b ∷ l)
        (append_assoc len rest more),
  )

  negative_more : (s : List ℕ) → HasNegativeLength s → HasNegativeLength (s ++ more)
  negative_more s (n, len, rest, number, is) =
      (n, len, rest ++ more, number, ap (λ (l : List ℕ). l ++ more) is ∙ append_assoc len rest more)

  count_more : (s : List ℕ) (n : ℕ) (fields : List ℕ) → CountThen s n fields → CountThen (s ++ more) n (fields ++ more)
  count_more s n fields (count, counted, is) =
      (count, counted, ap (λ (l : List ℕ). l ++ more) is ∙ append_assoc count fields more)

  front_more : (n : ℕ) (s : List ℕ) (e : TupleFault) → RefusesTupleOf n s e → RefusesTupleOf n (s ++ more) e
  front_more n s (tuple.Columns expected got) (wanted, other, no_trailer, fits, rest, is) = (
    wanted,
    other,
    no_trailer,
    fits,
    rest ++ more,
    ap (λ (l : List ℕ). l ++ more) is ∙ append_assoc (be w16 got) rest more,
  )
  front_more n s (tuple.Length column) (place, fields, rest, below, is, framed, number, negative) = (
    place,
    fields ++ more,
    rest ++ more,
    below,
    count_more s n fields is,
    frames_more fields place rest framed,
    number,
    negative_more rest negative,
  )

  tuple_more : (row : Row) (columns : List Column) (s : List ℕ) (f : CopyFault) → TupleRefused row columns s f
      → TupleRefused row columns (s ++ more) f
  tuple_more row columns s f h =
      elim h [
        | inl front ↦ inl (front.0, front_more (length columns) s front.0 front.1, front.2)
        | inr refused ↦ inr (
          refused.0,
          refused.1 ++ more,
          refused.2,
          subst (CountThen (s ++ more) (length columns)) (append_assoc refused.0 refused.1 more)
              (count_more s (length columns) (refused.0 ++ refused.1) refused.3),
          refused.4,
        )
      ]

  some_more : (s : List ℕ) → s ≢ [] → s ++ more ≢ []
  some_more [] h = absurd (h refl)
  some_more (x ∷ s) h = λ e. let bad : ⊥ = cc in bad

  -- what is to come is refused, so the COPY is
  pub refused_at : (columns : List Column) (place : Place) (rows : ℕ) (s rest lines : List ℕ) (f : CopyFault)
      → HasRead columns place rows s lines → StopsAt columns place rows rest f
      → Refused columns (s ++ (rest ++ more)) lines f
  refused_at columns Header rows s rest lines f h k =
      inl (
        h.1,
        subst (λ x. HeaderRefused (x ++ (rest ++ more)) f) (sym h.0) (k.0, header_more rest k.0 k.1, k.2),
      )
  refused_at columns (Extension len) rows s rest lines f h k = absurd k
  refused_at columns Tuples rows s rest lines f h k =
      inr (
        s,
        rest ++ more,
        h.0,
        h.1,
        refl,
        inl (subst (λ row. TupleRefused row columns (rest ++ more) f) (same_row rows (length h.0) h.2)
            (tuple_more (next_row rows) columns rest f k)),
      )
  refused_at columns End rows s rest lines f (t, h, is) k =
      inr (
        t,
        trailer ++ (rest ++ more),
        h.0,
        h.1,
        ap (λ (l : List ℕ). l ++ (rest ++ more)) is ∙ append_assoc t trailer (rest ++ more),
        inr (k.0, rest ++ more, refl, some_more rest k.1),
      )

-- a fault of the header, or of a tuple, is not that the COPY is truncated
no_header : (e : HeaderFault) → stop.Truncated ≡ header_fault e → ⊥
no_header header.Signature is = let bad : ⊥ = cc in bad
no_header header.Oids is = let bad : ⊥ = cc in bad
no_header header.Flags is = let bad : ⊥ = cc in bad
no_header header.Extension is = let bad : ⊥ = cc in bad

no_tuple : (row : Row) (e : TupleFault) → stop.Truncated ≡ tuple_fault row e → ⊥
no_tuple row (tuple.Columns expected got) is = let bad : ⊥ = cc in bad
no_tuple row (tuple.Length column) is = let bad : ⊥ = cc in bad

-- a refused COPY is not truncated
not_truncated : (columns : List Column) (s lines : List ℕ) → Refused columns s lines stop.Truncated → ⊥
not_truncated columns s lines h =
    elim h [
      | inl head ↦ no_header head.1.0 head.1.2
      | inr after ↦ elim after.5 [
        | inl fault ↦ elim fault [
          | inl front ↦ no_tuple (next_row (length after.2)) front.0 front.2
          | inr row ↦ row.4.refused
        ]
        | inr trailing ↦ let e = trailing.0 in cc
      ]
    ]

pub stops_after : (columns : List Column) (s lines : List ℕ) (f : CopyFault) → Refused columns s lines f
    → StopsAfter columns s lines f
stops_after columns s lines stop.Read h = tt
stops_after columns s lines stop.Write h = tt
stops_after columns s lines stop.Memory h = tt
stops_after columns s lines stop.Truncated h = absurd (not_truncated columns s lines h)
stops_after columns s lines f h = h

-- where nothing whole is to come, and nothing comes, the COPY is truncated
pub truncated_at : (columns : List Column) (place : Place) (count : ℕ) (s held lines : List ℕ)
    → HasRead columns place count s lines → Awaits columns place held → (place ≡ End → ⊥)
    → IsTruncated columns (s ++ held) lines
truncated_at columns Header count s held lines h a open_ =
    inl (h.1, inl (subst EndsInHeader (ap (λ (l : List ℕ). l ++ held) (sym h.0)) a))
truncated_at columns (Extension len) count s held lines h a open_ =
    inl (
      h.1,
      inr (
        len,
        a.0,
        subst (AwaitsExtension len) (sym (append-nil s) ∙ ap (λ (l : List ℕ). s ++ l) (sym a.1)) h.0,
      ),
    )
truncated_at columns Tuples count s held lines h a open_ = inr (s, held, (h.0, h.1), refl, a)
truncated_at columns End count s held lines h a open_ = absurd (open_ refl)
