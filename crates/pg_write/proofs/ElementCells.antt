-- The cells of elements, one after another.
use Rattle.std.proofs.Common.{◌≡◌, ◌<◌, ◌+◌, ◌++◌, ℕ, List, [], ◌∷◌, length, take, drop, get_or}
use Rattle.std.proofs.Common.{Option, Some, None, IfSome, Ok, Err, refl, sym, ap, ◌∙◌, append_assoc}
use Rattle.std.proofs.lemmas.List.{take_more, take-append-drop}
use Rattle.pg_base.specs.Appending.{Wire}
use Rattle.pg_base.specs.Cells.{Cell}
use Rattle.pg_types.specs.Faults.{Outcome, Refusal}
use Rattle.pg_write.specs.ArrayWriting.{element_cells, element_frame_cell, cons_cell}

-- what is known where a cell stands before others
pub record IsInFront (w : Wire) (r : Outcome (List Cell)) (cs : List Cell) : Type 0 where
  -- the cell, and the others
  pub cell : Cell
  pub others : List Cell
  pub cell_is : w ≡ Ok cell
  pub others_are : r ≡ Ok others
  -- they are all the cells
  pub all : cs ≡ cell ∷ others

-- a cell before others: all are there
pub in_front_ok : (w : Wire) (r : Outcome (List Cell)) (cs : List Cell) → cons_cell w r ≡ Ok cs → IsInFront w r cs
in_front_ok (Err x) r cs e = let no : ⊥ = cc in absurd no
in_front_ok (Ok c) (Err x) cs e = let no : ⊥ = cc in absurd no
in_front_ok (Ok c) (Ok ds) cs e =
    record { cell = c; others = ds; cell_is = refl; others_are = refl; all = cc }

module _ {A : Type 0} (wire : A → Wire) where
  -- the cells of the first elements and those of the others
  cells-append : (us vs : List A) (cs ds : List Cell) → element_cells wire us ≡ Ok cs → element_cells wire vs ≡ Ok ds
      → element_cells wire (us ++ vs) ≡ Ok (cs ++ ds)
  cells-append [] vs cs ds e f = let none : cs ≡ [] = cc in rw none f
  cells-append (u ∷ us) vs cs ds e f =
      let p = in_front_ok (element_frame_cell (wire u)) (element_cells wire us) cs e in
      ap (cons_cell (element_frame_cell (wire u))) (cells-append us vs p.others ds p.others_are f)
      ∙ ap (λ w. cons_cell w (Ok (p.others ++ ds))) p.cell_is ∙ ap (λ ws. Ok (ws ++ ds)) (sym p.all)

  -- the first fault is that of the others where the first elements have none
  cells-fault : (us vs : List A) (cs : List Cell) (r : Refusal) → element_cells wire us ≡ Ok cs → element_cells wire vs
      ≡ Err r → element_cells wire (us ++ vs) ≡ Err r
  cells-fault [] vs cs r e f = f
  cells-fault (u ∷ us) vs cs r e f =
      let p = in_front_ok (element_frame_cell (wire u)) (element_cells wire us) cs e in
      ap (cons_cell (element_frame_cell (wire u))) (cells-fault us vs p.others r p.others_are f)
      ∙ rw p.cell_is refl

  module _ (vs : List A) (i : ℕ) (v : A) (h : i < length vs) (is : v ≡ get_or vs i v) where
    more : take (i + 1) vs ≡ take i vs ++ v ∷ []
    more = take_more vs i v h ∙ ap (λ u. take i vs ++ u ∷ []) (sym is)

    whole : vs ≡ take i vs ++ (v ∷ drop (i + 1) vs)
    whole = sym (take-append-drop (i + 1) vs) ∙ ap (λ us. us ++ drop (i + 1) vs) more
        ∙ append_assoc (take i vs) (v ∷ []) (drop (i + 1) vs)

    -- one more element has a cell
    pub next_cell : (cs : List Cell) (c : Cell) → element_cells wire (take i vs) ≡ Ok cs → element_frame_cell (wire v)
        ≡ Ok c → element_cells wire (take (i + 1) vs) ≡ Ok (cs ++ c ∷ [])
    next_cell cs c so_far next =
        let one : element_cells wire (v ∷ []) ≡ Ok (c ∷ []) = rw next refl in
        ap (element_cells wire) more ∙ cells-append (take i vs) (v ∷ []) cs (c ∷ []) so_far one

    -- the next element has none
    pub next_fault : (cs : List Cell) (r : Refusal) → element_cells wire (take i vs) ≡ Ok cs
        → element_frame_cell (wire v) ≡ Err r → element_cells wire vs ≡ Err r
    next_fault cs r so_far next =
        let others : element_cells wire (v ∷ drop (i + 1) vs) ≡ Err r = rw next refl in
        ap (element_cells wire) whole ∙ cells-fault (take i vs) (v ∷ drop (i + 1) vs) cs r so_far others

    pub next_refusal : (cs : List Cell) (refusal : Option Refusal) → element_cells wire (take i vs) ≡ Ok cs
        → IfSome refusal (λ r. element_frame_cell (wire v) ≡ Err r)
        → IfSome refusal (λ r. element_cells wire vs ≡ Err r)
    next_refusal cs None so_far next = tt
    next_refusal cs (Some r) so_far next = next_fault cs r so_far next
