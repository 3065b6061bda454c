-- Laws of frames in a row, and of tuples after one another.
use Rattle.std.proofs.Common.{◌≡◌, ℕ, ◌+◌, ◌<◌, pos, List, [], ◌∷◌, ◌++◌, Some, None, refl, sym, ap, ◌∙◌}
use Rattle.std.proofs.Common.{append_assoc, arith, length, length-append, if◌then◌else◌}
use Rattle.std.proofs.lemmas.Bool.{lt-ltb}
use Rattle.std.specs.Int.{w16}
use Rattle.pg_base.proofs.Concat.{concat-assoc, concat-nil, nil-concat, next_frames}
use Rattle.pg_base.specs.Cells.{Cell, be, concat, frame, frames}
use Rattle.pg_tuples.specs.Tuples.{BeginsCopy, FrameThen, FramesThen, column_count, tuple, tuples}

-- a frame after so many is one more
pub frames_next : (s mid rest : List ℕ) (n : ℕ) → FramesThen s n mid → FrameThen mid rest → FramesThen s (n + 1) rest
frames_next s mid rest n (cells, bytes, count, are, is) (cell, more, one, follows) = (
  cells ++ cell ∷ [],
  bytes ++ more,
  (let sum = length-append cells (cell ∷ []) in omega (arith, count, sum)),
  next_frames cells cell bytes more are one,
  is ∙ ap (λ l. bytes ++ l) follows ∙ sym (append_assoc bytes more rest),
)

tuples-append : (rows more : List (List Cell)) → tuples (rows ++ more) ≡ concat (tuples rows) (tuples more)
tuples-append [] more = sym (nil-concat (tuples more))
tuples-append (row ∷ rows) more = ap (concat (tuple row)) (tuples-append rows more)
    ∙ sym (concat-assoc (tuple row) (tuples rows) (tuples more))

tuples_next : (rows : List (List Cell)) (row : List Cell) (bytes more : List ℕ) → tuples rows ≡ Some bytes
    → tuple row ≡ Some more → tuples (rows ++ row ∷ []) ≡ Some (bytes ++ more)
tuples_next rows row bytes more so_far one =
    tuples-append rows (row ∷ []) ∙ ap (concat (tuples rows)) (concat-nil (tuple row)) ∙ rw (so_far, one) refl

-- a number of columns that fits has its bytes
pub counted_below : (n : ℕ) → n < 32768 → column_count n ≡ Some (be w16 (pos n))
counted_below n below = ap (λ b. if b then Some (be w16 (pos n)) else None) (lt-ltb n 32768 below)

-- the tuple of cells whose number and frames are known
pub tuple_counted : (cells : List Cell) (n : ℕ) (count row : List ℕ) → length cells ≡ n → column_count n ≡ Some count
    → frames cells ≡ Some row → tuple cells ≡ Some (count ++ row)
tuple_counted cells n count row many counted are =
    ap (λ k. concat (column_count k) (frames cells)) many ∙ ap (λ c. concat c (frames cells)) counted
    ∙ ap (concat (Some count)) are

-- a tuple after those of rows
pub copy_next : (rows : List (List Cell)) (row : List Cell) (s t : List ℕ) → BeginsCopy rows s → tuple row ≡ Some t
    → BeginsCopy (rows ++ row ∷ []) (s ++ t)
copy_next rows row s t (head, bytes, is_header, are, is) one = (
  head,
  bytes ++ t,
  is_header,
  tuples_next rows row bytes t are one,
  ap (λ l. l ++ t) is ∙ append_assoc head bytes t,
)
