-- Laws of rows whose cells are found before columns are read.
use Rattle.std.proofs.Common.{◌≡◌, ◌+◌, ◌-◌, ◌<◌, ◌++◌, ℕ, zero, suc, List, [], ◌∷◌, Option, Some, length, drop, slice_get, ap}
use Rattle.std.proofs.Common.{append_assoc, arith, length-append, refl, subst, sym, ◌∙◌, get_or}
use Rattle.std.specs.Borrow.{Bor}
use Rattle.std.proofs.lemmas.List.{drop_at}
use Rattle.std.proofs.lemmas.Option.{slice_get-get_or, slice_get_within}
use Rattle.pg_base.specs.Cells.{Cell, SpellsAll}
use Rattle.pg_client.specs.RowIndexes.{HasFrame, IsIndexed, indexed_columns, indexed_frames}
use Rattle.pg_client.specs.RowOffsets.{HasOffsets, IsOffset}
use Rattle.pg_client.specs.declared.column.Column.{Column}
use Rattle.pg_client.specs.declared.row_index.IndexedRow.{IndexedRow}

-- the bytes before those after cells
before : (s rest : List ℕ) (cs : List Cell) → SpellsAll s cs rest → (front : List ℕ) × (s ≡ front ++ rest)
before s rest [] is = ([], is)
before s rest (c ∷ cs) p =
    let others = before p.rest rest cs p.rest_spells in (
      p.front ++ others.0,
      p.is ∙ ap (λ t. p.front ++ t) others.1 ∙ sym (append_assoc p.front others.0 rest),
    )

-- the offset after so many cells
pub offset_after : (s rest : List ℕ) (cs : List Cell) (n : ℕ) → length cs ≡ n → SpellsAll s cs rest
    → IsOffset n s (length s - length rest)
offset_after s rest cs n many spelled =
    let p = before s rest cs spelled in
    let len : length s ≡ length p.0 + length rest = ap length p.1 ∙ length-append p.0 rest in
    let at : length p.0 ≡ length s - length rest = omega (arith, len) in
    let after : drop (length s - length rest) s ≡ rest =
    ap (drop (length s - length rest)) p.1 ∙ drop_at p.0 rest (length s - length rest) at in
    (omega (arith, len), cs, many, subst (λ t. SpellsAll s cs t) (sym after) spelled)

-- an element of one more
of_one_more : (n : ℕ) (xs : List ℕ) (x : ℕ) (P : ℕ → ℕ → Type 0) → length xs ≡ n
    → ((k y : ℕ) → slice_get xs k ≡ Some y → P k y) → P n x
    → (k y : ℕ) → slice_get (xs ++ x ∷ []) k ≡ Some y → P k y
of_one_more n [] x P many all one zero y e =
    let same : x ≡ y = cc in
    subst (λ k. P k y) (sym many) (subst (P n) same one)
of_one_more n [] x P many all one (suc k) y e = let no : ⊥ = cc in absurd no
of_one_more n (z ∷ xs) x P many all one zero y e = all zero y e
of_one_more n (z ∷ xs) x P many all one (suc k) y e =
    of_one_more (length xs) xs x (λ k y. P (suc k) y) refl (λ k y e. all (suc k) y e)
    (subst (λ k. P k x) (sym many) one) k y e

-- one more offset
pub one_more_offset : (n : ℕ) (frames offsets : List ℕ) (offset : ℕ) → HasOffsets n frames offsets
    → IsOffset n frames offset → HasOffsets (n + 1) frames (offsets ++ offset ∷ [])
one_more_offset n frames offsets offset h one = (
  omega (arith, h.0, length-append offsets (offset ∷ [])),
  of_one_more n offsets offset (λ k y. IsOffset k frames y) h.0 h.1 one,
)

-- the frame of a column that is there
pub frame_there : (row : IndexedRow) (n : ℕ) (column : Column) → slice_get (indexed_columns row) n ≡ Some column
    → IsIndexed row → (found : Option (Bor (List ℕ))) → HasFrame row n found
    → (frame : Bor (List ℕ)) × (found ≡ Some frame) × (cs : List Cell) × (length cs ≡ n)
    × SpellsAll (indexed_frames row) cs frame.now
frame_there row n column there h found has =
    let within : n < length row.offsets.now =
    omega (arith, h.0, slice_get_within (indexed_columns row) n column there) in
    let at = get_or row.offsets.now n 0 in
    let is = slice_get-get_or row.offsets.now n 0 within in
    let offset = h.1 n at is in
    let frame = has at is offset.0 in (
      frame.0,
      frame.1,
      offset.1,
      offset.2,
      subst (λ t. SpellsAll (indexed_frames row) offset.1 t) (sym frame.2) offset.3,
    )
