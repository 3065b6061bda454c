-- Laws of reading a binary COPY.
use Rattle.std.proofs.Common.{◌≡◌, ◌+◌, ℕ, List, [], ◌∷◌, ◌++◌, Some, length, inl, inr, refl}
use Rattle.std.proofs.Common.{ap, sym, subst, ◌∙◌, append_assoc, append-nil, arith, length-append}
use Rattle.std.proofs.lemmas.List.{nil_from_length}
use Rattle.pg_base.proofs.CellLaws.{cells_single, frames_spell}
use Rattle.pg_base.specs.Cells.{Cell, SpellsAll}
use Rattle.pg_copy.proofs.LineLaws.{fields_width, lines_next}
use Rattle.pg_copy.specs.Lines.{IsLineOf}
use Rattle.pg_copy.specs.ReadingSteps.{AddsRow, Advances, HasRead}
use Rattle.pg_copy.specs.Refusals.{row_count}
use Rattle.pg_copy.specs.Rows.{BeginsRows, BeginsWithRows, StartsCopyOf}
use Rattle.pg_tuples.proofs.TupleLaws.{copy_next, tuple_counted}
use Rattle.pg_tuples.specs.Reading.{AwaitsExtension, TakesHeader}
use Rattle.pg_tuples.specs.Tuples.{CountThen, FramesThen, IsHeader, trailer, tuple}
use Rattle.pg_copy.specs.declared.columns.Column.{Column}
use Rattle.pg_copy.specs.declared.read.Place.{Place}
use Rattle.pg_copy.specs.declared.read.Place.TheVariants.{Header, Extension, Tuples, End}

module _ (columns : List Column) where
  pub rows_next : (s t lines line : List ℕ) (rows : List (List Cell)) (row : List Cell)
      → BeginsWithRows columns rows s lines → tuple row ≡ Some t → IsLineOf columns row line
      → BeginsWithRows columns (rows ++ row ∷ []) (s ++ t) (lines ++ line)
  rows_next s t lines line rows row (begun, texts) one text =
      (copy_next rows row s t begun one, lines_next columns rows row lines line texts text)

  unmoved : (place : Place) (i : ℕ) (s lines : List ℕ) → HasRead columns place i s lines
      → HasRead columns place i (s ++ []) (lines ++ [])
  unmoved place i s lines h =
      subst (λ t. HasRead columns place i t (lines ++ [])) (sym (append-nil s))
      (subst (HasRead columns place i s) (sym (append-nil lines)) h)

  pub advances_none : (place : Place) (i : ℕ) (s lines : List ℕ) → Advances columns place i s lines place i s lines
  advances_none place i s lines = ([], [], refl, sym (append-nil lines), unmoved place i)

  pub advances_more : (p q r : Place) (i j k : ℕ) (a b c l m n : List ℕ) → Advances columns p i a l q j b m
      → Advances columns q j b m r k c n → Advances columns p i a l r k c n
  advances_more p q r i j k a b c l m n (t, gained, is, longer, step) (u, more, then, longest, next) = (
    t ++ u,
    gained ++ more,
    is ∙ ap (λ s. t ++ s) then ∙ sym (append_assoc t u c),
    longest ∙ ap (λ s. s ++ more) longer ∙ append_assoc l gained more,
    λ s so_far h. subst (λ x. HasRead columns r k x (so_far ++ (gained ++ more))) (append_assoc s t u)
        (subst (HasRead columns r k ((s ++ t) ++ u)) (append_assoc so_far gained more)
        (next (s ++ t) (so_far ++ gained) (step s so_far h))),
  )

  pub head_taken : (i : ℕ) (old new lines : List ℕ) (len : ℕ) → TakesHeader old (Some len) new
      → Advances columns Header i old lines (Extension len) i new lines
  head_taken i old new lines len (t, awaits, is) = (
    t,
    [],
    is,
    sym (append-nil lines),
    λ s so_far h. (
      subst (AwaitsExtension len) (ap (λ x. x ++ t) (sym h.0)) awaits,
      append-nil so_far ∙ h.1,
      h.2,
    ),
  )

  pub extension_taken : (i : ℕ) (old t new lines : List ℕ) (len : ℕ) → length t ≡ len → old ≡ t ++ new
      → Advances columns (Extension len) i old lines Tuples i new lines
  extension_taken i old t new lines len whole is = (
    t,
    [],
    is,
    sym (append-nil lines),
    λ s so_far h. (
      [],
      ((s ++ t, [], h.0 t whole, refl, sym (append-nil (s ++ t))), append-nil so_far ∙ h.1),
      h.2,
    ),
  )

  pub extension_part : (i : ℕ) (t lines : List ℕ) (len left : ℕ) → left + length t ≡ len
      → Advances columns (Extension len) i t lines (Extension left) i [] lines
  extension_part i t lines len left sum = (
    t,
    [],
    sym (append-nil t),
    sym (append-nil lines),
    λ s so_far h. (
      λ more count. subst IsHeader (sym (append_assoc s t more))
          (h.0 (t ++ more) (let both = length-append t more in omega (arith, both, count, sum))),
      append-nil so_far ∙ h.1,
      h.2,
    ),
  )

  -- one row more is counted
  one_more : (i j : ℕ) (rows : List (List Cell)) (row : List Cell) → j ≡ row_count (i + 1)
      → i ≡ row_count (length rows) → j ≡ row_count (length (rows ++ row ∷ []))
  one_more i j rows row next so_far =
      let sum = length-append rows (row ∷ []) in
      omega (arith, next, so_far, sum)

  pub row_taken : (i j : ℕ) (s frames rest lines longer : List ℕ) → FramesThen frames (length columns) []
      → CountThen s (length columns) (frames ++ rest) → AddsRow columns frames lines longer
      → j ≡ row_count (i + 1) → Advances columns Tuples i s lines Tuples j rest longer
  row_taken i j s frames rest lines longer (cells, bytes, many, are, then) (count, counted, is)
      (left, (row, spelled, (line, one, grown))) next =
      let width : length row ≡ length columns = (fields_width columns row one.0 one.1).0 in
      let framed = subst (λ x. SpellsAll x cells []) (sym then) (frames_spell cells bytes [] are) in
      let single = cells_single frames (length columns) cells row [] left (framed, omega (arith, many), inl many)
      (spelled, omega (arith, width), inl width) in
      let framed_cells = are ∙ ap Some (sym (then ∙ append-nil bytes)) in
      let tuple_is : tuple row ≡ Some (count ++ frames) = subst (λ x. tuple x ≡ Some (count ++ frames)) single.0
      (tuple_counted cells (length columns) count frames many counted framed_cells) in (
        count ++ frames,
        line,
        is ∙ sym (append_assoc count frames rest),
        grown,
        λ t so_far h. (
          h.0 ++ row ∷ [],
          rows_next t (count ++ frames) so_far line h.0 row h.1 tuple_is one,
          one_more i j h.0 row next h.2,
        ),
      )

  pub trailer_taken : (i j : ℕ) (s rest lines : List ℕ) → s ≡ trailer ++ rest
      → Advances columns Tuples i s lines End j rest lines
  trailer_taken i j s rest lines is = (
    trailer,
    [],
    is,
    sym (append-nil lines),
    λ t so_far h. (t, subst (BeginsRows columns t) (sym (append-nil so_far)) (h.0, h.1), refl),
  )

  -- what was read starts a COPY, whatever comes after it
  pub started : (place : Place) (i : ℕ) (s rest lines : List ℕ) → HasRead columns place i s lines
      → StartsCopyOf columns (s ++ rest) lines
  started Header i s rest lines h = inl h.1
  started (Extension len) i s rest lines h = inl h.1
  started Tuples i s rest lines h = inr (s, rest, (h.0, h.1), refl)
  started End i s rest lines (t, h, is) =
      inr (t, trailer ++ rest, h, ap (λ x. x ++ rest) is ∙ append_assoc t trailer rest)

-- three parts after one another
pub advances_three : (x y z : List Column) (p q r u : Place) (i j k v : ℕ) (a b c d l m n o : List ℕ) → y ≡ x → z ≡ y
    → Advances x p i a l q j b m → Advances y q j b m r k c n → Advances z r k c n u v d o → Advances x p i a l u v d o
advances_three x y z p q r u i j k v a b c d l m n o e f one two three =
    advances_more x p r u i k v a c d l n o
    (advances_more x p q r i j k a b c l m n one (subst (λ w. Advances w q j b m r k c n) e two))
    (subst (λ w. Advances w r k c n u v d o) (f ∙ e) three)

-- nothing is taken where as much is left
pub none_taken : (columns : List Column) (p q : Place) (i j : ℕ) (a b l m : List ℕ) → length b ≡ length a
    → Advances columns p i a l q j b m → Advances columns p i a l q j a m
none_taken columns p q i j a b l m e (t, gained, is, longer, step) =
    let count = ap length is ∙ length-append t b in
    let none : t ≡ [] = nil_from_length t (omega (arith, e, count)) in
    let same : b ≡ a = sym (is ∙ ap (λ s. s ++ b) none) in
    subst (λ s. Advances columns p i a l q j s m) same (t, gained, is, longer, step)
