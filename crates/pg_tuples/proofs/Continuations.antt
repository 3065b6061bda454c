-- Laws of what comes after a header and tuples.
use Rattle.std.proofs.Common.{◌≡◌, ◌∙◌, ℕ, ℤ, suc, pos, negsuc, List, [], ◌∷◌, ◌++◌, Some, length, take, drop, nat_lt}
use Rattle.std.proofs.Common.{ap, append_assoc, arith, refl, subst, sym}
use Rattle.std.proofs.Math.Seq.{take-append_seam, drop-append_seam}
use Rattle.std.proofs.lemmas.Bool.{ltb-true}
use Rattle.std.proofs.lemmas.Int.{ints}
use Rattle.std.proofs.lemmas.Nat.{from_be_bytes-to_be_bytes_2}
use Rattle.std.specs.Int.{w16}
use Rattle.pg_base.proofs.CellLaws.{cell_single, frame_prefixes_single}
use Rattle.pg_base.proofs.FormatLaws.{be-length, be-single}
use Rattle.pg_base.proofs.FrameLaws.{parts_of, some_of}
use Rattle.pg_base.specs.Cells.{Cell, IsBe, be, frames}
use Rattle.pg_tuples.specs.Tuples.{IsHeader, IsNoCopy, column_count, header, trailer, tuple, tuples}

-- the bytes of a number of columns
count_is : (n : ℕ) (count : List ℕ) → column_count n ≡ Some count → IsBe w16 count (pos n)
count_is n count e =
    let p = some_of (nat_lt n 32768) (be w16 (pos n)) count e in
    let below = ltb-true n 32768 p.0 in
    (omega (arith, ints, below), p.1)

-- bytes begin with one number of two bytes
number_single : (m n : ℤ) (a b s t : List ℕ) → IsBe w16 a m → IsBe w16 b n → a ++ s ≡ b ++ t → (m ≡ n) × (s ≡ t)
number_single m n a b s t p q e =
    let long = be-length w16 a m p ∙ sym (be-length w16 b n q) in
    let same : a ≡ b = sym (take-append_seam a s) ∙ ap (take (length a)) e ∙ ap (λ k. take k (b ++ t)) long
    ∙ take-append_seam b t in
    let others : s ≡ t = sym (drop-append_seam a s) ∙ ap (drop (length a)) e ∙ ap (λ k. drop k (b ++ t)) long
    ∙ drop-append_seam b t in
    (be-single w16 from_be_bytes-to_be_bytes_2 a m n p (subst (λ x. IsBe w16 x n) (sym same) q), others)

-- and with one tuple
tuple_single : (cs ds : List Cell) (a b s t : List ℕ) → tuple cs ≡ Some a → tuple ds ≡ Some b → a ++ s ≡ b ++ t
    → (cs ≡ ds) × (s ≡ t)
tuple_single cs ds a b s t e f is =
    let x = parts_of (column_count (length cs)) (frames cs) a e in
    let y = parts_of (column_count (length ds)) (frames ds) b f in
    let whole : x.first ++ (x.second ++ s) ≡ y.first ++ (y.second ++ t) =
    sym (append_assoc x.first x.second s) ∙ ap (λ l. l ++ s) (sym x.whole) ∙ is ∙ ap (λ l. l ++ t) y.whole
    ∙ append_assoc y.first y.second t in
    let first = number_single (pos (length cs)) (pos (length ds)) x.first y.first (x.second ++ s) (y.second ++ t)
    (count_is (length cs) x.first x.first_is) (count_is (length ds) y.first y.first_is) whole in
    let same = first.0 in
    let many : length cs ≡ length ds = cc in
    frame_prefixes_single cs ds x.second y.second s t many x.second_is y.second_is first.1

-- a negative number begins no tuple
negative_no_tuple : (n : ℕ) (count : List ℕ) (cells : List Cell) (b s t : List ℕ) → IsBe w16 count (negsuc n)
    → tuple cells ≡ Some b → count ++ s ≡ b ++ t → ⊥
negative_no_tuple n count cells b s t number e is =
    let y = parts_of (column_count (length cells)) (frames cells) b e in
    let first = number_single (negsuc n) (pos (length cells)) count y.first s (y.second ++ t) number
    (count_is (length cells) y.first y.first_is) (is ∙ ap (λ l. l ++ t) y.whole ∙ append_assoc y.first y.second t) in
    let same = first.0 in
    cc

trailer_is : IsBe w16 trailer (negsuc 0)
trailer_is = (omega (arith, ints), refl)

module _ (n : ℕ) (count : List ℕ) (number : IsBe w16 count (negsuc (suc n))) (s : List ℕ) where
  -- tuples that such a number follows are not those before a trailer
  no_trailer : (rows others : List (List Cell)) (a b : List ℕ) → tuples rows ≡ Some a → tuples others ≡ Some b
      → a ++ (count ++ s) ≡ b ++ trailer → ⊥
  no_trailer [] [] a b e f is =
      let none : a ≡ [] = cc in
      let nothing : b ≡ [] = cc in
      let whole : count ++ s ≡ trailer ++ [] =
      ap (λ l. l ++ (count ++ s)) (sym none) ∙ is ∙ ap (λ l. l ++ trailer) nothing in
      let same = (number_single (negsuc (suc n)) (negsuc 0) count trailer s [] number trailer_is whole).0 in
      cc
  no_trailer [] (row ∷ others) a b e f is =
      let none : a ≡ [] = cc in
      let y = parts_of (tuple row) (tuples others) b f in
      negative_no_tuple (suc n) count row y.first s (y.second ++ trailer) number y.first_is
      (ap (λ l. l ++ (count ++ s)) (sym none) ∙ is ∙ ap (λ l. l ++ trailer) y.whole
      ∙ append_assoc y.first y.second trailer)
  no_trailer (row ∷ rows) [] a b e f is =
      let nothing : b ≡ [] = cc in
      let x = parts_of (tuple row) (tuples rows) a e in
      negative_no_tuple 0 trailer row x.first [] (x.second ++ (count ++ s)) trailer_is x.first_is
      (ap (λ l. l ++ trailer) (sym nothing) ∙ sym is ∙ ap (λ l. l ++ (count ++ s)) x.whole
      ∙ append_assoc x.first x.second (count ++ s))
  no_trailer (row ∷ rows) (another ∷ others) a b e f is =
      let x = parts_of (tuple row) (tuples rows) a e in
      let y = parts_of (tuple another) (tuples others) b f in
      let whole : x.first ++ (x.second ++ (count ++ s)) ≡ y.first ++ (y.second ++ trailer) =
      sym (append_assoc x.first x.second (count ++ s)) ∙ ap (λ l. l ++ (count ++ s)) (sym x.whole) ∙ is
      ∙ ap (λ l. l ++ trailer) y.whole ∙ append_assoc y.first y.second trailer in
      no_trailer rows others x.second y.second x.second_is y.second_is
      (tuple_single row another x.first y.first (x.second ++ (count ++ s)) (y.second ++ trailer) x.first_is
      y.first_is whole).1

-- after the header without a flag and with an empty extension comes what comes after any header of the same bytes
header_single : (head s t : List ℕ) → IsHeader head → header ++ s ≡ head ++ t → s ≡ t
header_single head s t (a, b, extension, framed, frame_is, is) e =
    let short : 0 ∷ 0 ∷ 0 ∷ 0 ∷ s ≡ framed ++ t = ap (drop 15) (e ∙ ap (λ l. l ++ t) is) in
    (cell_single (0 ∷ 0 ∷ 0 ∷ 0 ∷ []) s framed t (Some []) (Some extension) short refl frame_is).1

-- a header, tuples and a negative number of columns other than that of the trailer begin no COPY
pub no_copy : (rows : List (List Cell)) (a count : List ℕ) (n : ℕ) → tuples rows ≡ Some a
    → IsBe w16 count (negsuc (suc n)) → IsNoCopy ((header ++ a) ++ count)
no_copy rows a count n e number more others (t, (head, bytes, is_header, are, begun), is) =
    let front : ((header ++ a) ++ count) ++ more ≡ header ++ (a ++ (count ++ more)) =
    append_assoc (header ++ a) count more ∙ append_assoc header a (count ++ more) in
    let back : t ++ trailer ≡ head ++ (bytes ++ trailer) =
    ap (λ l. l ++ trailer) begun ∙ append_assoc head bytes trailer in
    no_trailer n count number more rows others a bytes e are
    (header_single head (a ++ (count ++ more)) (bytes ++ trailer) is_header (sym front ∙ is ∙ back))
