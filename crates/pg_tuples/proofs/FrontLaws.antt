-- Laws of what stands at the front of the bytes after the header.
use Rattle.std.proofs.Common.{◌≡◌, ◌+◌, ◌<◌, ◌≤◌, ◌<ℤ◌, ℕ, ℤ, zero, suc, pos, negsuc, List, ◌++◌, length}
use Rattle.std.proofs.Common.{take, drop, ap, arith, inr, refl, subst, sym, ◌∙◌, length-append, Bool, Some, None, true, false, if◌then◌else◌, nat_lt}
use Rattle.std.proofs.Common.{take-append-drop}
use Rattle.std.proofs.lemmas.Int.{ints}
use Rattle.std.specs.Int.{w16, w32}
use Rattle.pg_base.specs.Cells.{IsBe, be}
use Rattle.pg_tuples.proofs.TupleLaws.{counted_below}
use Rattle.pg_tuples.specs.Reading.{EndsInTuple, NoFrame}
use Rattle.pg_tuples.specs.Refusals.{HasNegativeLength, RefusesTupleOf}
use Rattle.pg_tuples.specs.Tuples.{CountThen, FramesThen, column_count, trailer}
use Rattle.pg_tuples.specs.declared.tuples.TupleFault.TheVariants.{Columns}

-- a number of columns that fits has its bytes
has_count : (n : ℕ) (count : List ℕ) → IsBe w16 count (pos n) → column_count n ≡ Some count
has_count n count number =
    let fits = number.0 in
    counted_below n (omega (arith, ints, fits)) ∙ ap Some (sym number.1)

two_if : (b : Bool) (n : ℕ) (count : List ℕ) → (if b then Some (be w16 (pos n)) else None) ≡ Some count
    → length count ≡ 2
two_if true n count e = let same : be w16 (pos n) ≡ count = cc in ap length (sym same)
two_if false n count e = let bad : ⊥ = cc in absurd bad

-- the bytes of a number of columns, and then the fields
module _ (n : ℕ) (s count fields : List ℕ) (first : count ≡ take 2 s) (others : fields ≡ drop 2 s) where
  counted : (z : ℤ) → IsBe w16 count z → s ≡ be w16 z ++ fields
  counted z number =
      sym (take-append-drop 2 s) ∙ ap (λ (l : List ℕ). l ++ drop 2 s) (sym first ∙ number.1)
      ∙ ap (λ (l : List ℕ). be w16 z ++ l) (sym others)

  pub columns_counted : IsBe w16 count (pos n) → CountThen s n fields
  columns_counted number = (
    count,
    has_count n count number,
    sym (take-append-drop 2 s) ∙ ap (λ (l : List ℕ). l ++ drop 2 s) (sym first)
        ∙ ap (λ (l : List ℕ). count ++ l) (sym others),
  )

  pub tuple_ends : (place : ℕ) (rest : List ℕ) → IsBe w16 count (pos n) → place < n → FramesThen fields place rest
      → NoFrame rest → (HasNegativeLength rest → ⊥) → EndsInTuple n s
  tuple_ends place rest number below framed none whole =
      inr (place, fields, rest, below, columns_counted number, framed, (none, whole))

  -- the number of columns is another
  pub count_refused : (z got : ℤ) → IsBe w16 count z → got ≡ z → (IsBe w16 count (pos n) → ⊥)
      → (count ≡ trailer → ⊥) → RefusesTupleOf n s (Columns n got)
  count_refused z got number same other no_trailer =
      let is_got : IsBe w16 count got = subst (IsBe w16 count) (sym same) number in (
        refl,
        λ e. other (subst (IsBe w16 count) e is_got),
        λ e. no_trailer (is_got.1 ∙ ap (be w16) e),
        is_got.0,
        fields,
        counted got is_got,
      )

-- a number below -1 is the length prefix of no cell
below_null : (z : ℤ) → z <ℤ negsuc 0 → (n : ℕ) × (z ≡ negsuc (suc n))
below_null (pos n) h = let no_pos : ⊥ = omega (arith, ints, h) in absurd no_pos
below_null (negsuc zero) h = let no_null : ⊥ = omega (arith, ints, h) in absurd no_null
below_null (negsuc (suc n)) h = (n, refl)

pub negative_length : (s rest : List ℕ) (z : ℤ) → (len : List ℕ) × (s ≡ len ++ rest) × IsBe w32 len z → z <ℤ negsuc 0
    → HasNegativeLength s
negative_length s rest z (len, is, number) h =
    let n = below_null z h in
    (n.0, len, rest, subst (IsBe w32 len) n.1 number, is)

-- a tuple is of two bytes at least
pub tuple_shorter : (n : ℕ) (s frames rest : List ℕ) → CountThen s n (frames ++ rest) → length rest + 2 ≤ length s
tuple_shorter n s frames rest (count, counted, is) =
    let two = two_if (nat_lt n 32768) n count counted in
    let whole : length s ≡ length count + length (frames ++ rest) =
    ap length is ∙ length-append count (frames ++ rest) in
    let sum = length-append frames rest in
    omega (arith, two, whole, sum)
