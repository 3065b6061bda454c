-- Laws of reading the rows of a binary COPY.
use Rattle.std.proofs.Common.{◌≡◌, ◌-◌, ◌+◌, ◌<◌, ℕ, List, [], ◌∷◌, ◌++◌, Some, length, ap, arith, refl, subst, sym}
use Rattle.std.proofs.Common.{◌∙◌, append-nil, append_assoc, drop, length-append, take, take-append-drop}
use Rattle.std.proofs.lemmas.List.{nil_from_length}
use Rattle.pg_base.specs.Cells.{Cell, frames}
use Rattle.pg_tuples.proofs.TupleLaws.{copy_next, tuple_counted}
use Rattle.pg_tuples.specs.Reading.{AwaitsExtension, EndsInExtension}
use Rattle.pg_tuples.specs.Tuples.{BeginsCopy, CountThen, FramesThen, IsCopy, IsHeader, trailer}

-- the header of a COPY of no row
pub begins_none : (s t mid extension rest : List ℕ) (len : ℕ) → AwaitsExtension len t → s ≡ t ++ mid
    → extension ≡ take len mid → rest ≡ drop len mid → length extension ≡ len
    → (begun : List ℕ) × BeginsCopy [] begun × (s ≡ begun ++ rest)
begins_none s t mid extension rest len awaits is first then whole =
    let split : mid ≡ extension ++ rest =
    sym (take-append-drop len mid) ∙ ap (λ l. l ++ drop len mid) (sym first) ∙ ap (λ l. extension ++ l) (sym then) in (
      t ++ extension,
      (t ++ extension, [], awaits extension whole, refl, sym (append-nil (t ++ extension))),
      is ∙ ap (λ l. t ++ l) split ∙ sym (append_assoc t extension rest),
    )

-- a header extension that is truncated
pub ends_in_extension : (s t extension : List ℕ) (len : ℕ) → AwaitsExtension len t → s ≡ t ++ extension
    → length extension < len → EndsInExtension s
ends_in_extension s t extension len awaits is few = (
  len - length extension,
  omega (arith, few),
  λ more count. subst IsHeader (sym (append_assoc t extension more) ∙ ap (λ l. l ++ more) (sym is))
      (awaits (extension ++ more) (let sum = length-append extension more in omega (arith, sum, count, few))),
)

-- the bytes of these rows were taken, and the tuple of one more stands before the rest
pub tuple_taken : (taken others : List ℕ) (rows : List (List Cell)) → BeginsCopy rows taken → (n : ℕ) (row rest : List ℕ)
    → FramesThen row n [] → CountThen others n (row ++ rest)
    → (front : List ℕ) × (others ≡ front ++ rest) × (cells : List Cell) × (length cells ≡ n) × (frames cells ≡ Some row)
    × BeginsCopy (rows ++ cells ∷ []) (taken ++ front)
tuple_taken taken others rows begun n row rest (cells, framed, many, are, is) (number, counted, stands) =
    let framed_row : frames cells ≡ Some row = are ∙ ap Some (sym (is ∙ append-nil framed)) in (
      number ++ row,
      stands ∙ sym (append_assoc number row rest),
      cells,
      many,
      framed_row,
      copy_next rows cells taken (number ++ row) begun (tuple_counted cells n number row many counted framed_row),
    )

-- so many rows were taken, and other bytes follow
module _ (bytes others : List ℕ) (rows : List (List Cell)) (count : ℕ)
    (so_far : (t : List ℕ) × BeginsCopy rows t × (bytes ≡ t ++ others) × (count ≡ length rows)) where
  pub row_next : (n : ℕ) (row rest : List ℕ) → FramesThen row n [] → CountThen others n (row ++ rest)
      → (cells : List Cell) × (length cells ≡ n) × (frames cells ≡ Some row)
      × ((t : List ℕ) × BeginsCopy (rows ++ cells ∷ []) t × (bytes ≡ t ++ rest)
      × (count + 1 ≡ length (rows ++ cells ∷ [])))
  row_next n row rest framed counted =
      let next = tuple_taken so_far.0 others rows so_far.1 n row rest framed counted in (
        next.2,
        next.3,
        next.4,
        (
          so_far.0 ++ next.0,
          next.5,
          so_far.2 ∙ ap (λ l. so_far.0 ++ l) next.1 ∙ sym (append_assoc so_far.0 next.0 rest),
          (let sum = length-append rows (next.2 ∷ []) in omega (arith, sum, so_far.3)),
        ),
      )

  pub copy_ends : (after : List ℕ) → others ≡ trailer ++ after → length after ≡ 0 → IsCopy rows bytes
  copy_ends after stands none = (
    so_far.0,
    so_far.1,
    so_far.2 ∙ ap (λ l. so_far.0 ++ l) (stands ∙ ap (λ l. trailer ++ l) (nil_from_length after none)),
  )
