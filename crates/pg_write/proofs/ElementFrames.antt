-- The frames of elements, one after another, after an array's head.
use Rattle.std.proofs.Common.{◌≡◌, ◌<◌, ◌≤◌, ◌+◌, ◌++◌, ℕ, ℤ, pos, List, [], ◌∷◌, length, take, drop, get_or}
use Rattle.std.proofs.Common.{Some, Bool, true, false, cond, ◌||◌, option_map, Ok, Err, refl, sym, ap, ap₂}
use Rattle.std.proofs.Common.{◌∙◌, subst, arith, append_assoc, length-append}
use mir.Val.{bool_byte}
use Rattle.std.specs.Int.{w32, to_be_bytes}
use Rattle.std.proofs.Math.Seq.{take-append_seam}
use Rattle.std.proofs.lemmas.Bool.Decides.{nat_tests}
use Rattle.std.proofs.lemmas.List.{take-append-drop, take_all}
use Rattle.pg_base.specs.Appending.{Wire, wire_of}
use Rattle.pg_base.specs.Arrays.{flags_of, has_null, head_bytes}
use Rattle.pg_base.specs.Cells.{Cell, be, concat, fits_prefix, frames, max_length}
use Rattle.pg_base.specs.Counts.{count_bytes, number_width}
use Rattle.pg_base.proofs.CellsByLength.{put_right}
use Rattle.pg_base.proofs.Concat.{cond_passes}
use Rattle.pg_types.specs.Faults.{refusal_of}
use Rattle.pg_types.specs.declared.fault.Fault.{Fault}
use Rattle.pg_types.specs.declared.format.IsNull.{IsNull}
use Rattle.pg_types.specs.declared.format.IsNull.TheVariants.{Yes, No}
use Rattle.pg_write.specs.ArrayWriting.{element_cells, element_frame_cell, wire_array}
use Rattle.pg_write.specs.ParamWriting.{AppendsElement, AppendsFrames}
use Rattle.pg_write.proofs.ElementCells.{in_front_ok, next_refusal}
use Rattle.pg_write.proofs.ParamLists.{one_more}
use Rattle.pg_base.proofs.CellRows.{null_append}

-- what is not NULL
pub not_null : (n : IsNull) → (n ≡ Yes → ⊥) → n ≡ No
not_null Yes h = absurd (h refl)
not_null No h = refl

-- the flags, by whether a cell is NULL
flags_number : (cs : List Cell) (t : Bool) → has_null cs ≡ t → to_be_bytes w32 (bool_byte t) ≡ be w32 (flags_of cs)
flags_number cs true is = ap (λ b. be w32 (cond b (pos 1) (pos 0))) (sym is)
flags_number cs false is = ap (λ b. be w32 (cond b (pos 1) (pos 0))) (sym is)

module _ {A : Type 0} (f : A → Wire) where
  -- there are as many cells as values
  as_many : (vs : List A) (cs : List Cell) → element_cells f vs ≡ Ok cs → length cs ≡ length vs
  as_many [] cs e = let none : [] ≡ cs = cc in ap length (sym none)
  as_many (v ∷ vs) cs e =
      let p = in_front_ok (element_frame_cell (f v)) (element_cells f vs) cs e in
      omega (arith, ap length p.all, as_many vs p.others p.others_are)

  module _ (vs : List A) (i : ℕ) (v : A) (h : i < length vs) (is : v ≡ get_or vs i v) where
    -- one more element was appended
    pub next_element : (old mid new : List ℕ) (null is_null : Bool) → AppendsFrames f (take i vs) old mid (Ok null)
        → AppendsElement (f v) mid new (Ok is_null) → AppendsFrames f (take (i + 1) vs) old new (Ok (null || is_null))
    next_element old mid new null is_null so_far next =
        let all = one_more f vs i v h is old mid new so_far.0 next.0 in
        (all.0, ap has_null all.1 ∙ null_append so_far.0.cells next.0.cell ∙ ap₂ (λ a b. a || b) so_far.1 next.1)

    -- the next element is refused
    pub refused_element : (fault : Fault) (old mid low : List ℕ) (null : Bool)
        → AppendsFrames f (take i vs) old mid (Ok null) → AppendsElement (f v) mid low (Err fault)
        → AppendsFrames f vs old low (Err fault)
    refused_element fault old mid low null so_far next =
        let bytes = so_far.0.bytes in
        let rest = drop (length mid) low in
        let whole : low ≡ old ++ (bytes ++ rest) = sym (take-append-drop (length mid) low)
        ∙ ap (λ s. s ++ rest) (next.0 ∙ so_far.0.is) ∙ append_assoc old bytes rest in (
          ap (take (length old)) whole ∙ take-append_seam old (bytes ++ rest),
          next_refusal f vs i v h is so_far.0.cells (refusal_of fault) so_far.0.cells_are next.1,
        )

  module _ (vs : List A) (old new : List ℕ) where
    -- all were appended
    pub all_elements : (i : ℕ) (null : Bool) → length vs ≤ i → AppendsFrames f (take i vs) old new (Ok null)
        → AppendsFrames f vs old new (Ok null)
    all_elements i null h done = subst (λ us. AppendsFrames f us old new (Ok null)) (take_all i vs h) done

  -- the array of values whose cells have frames
  pub array_of : (vs : List A) (cs : List Cell) (bs : List ℕ) (lower_bound : ℤ) (oid : ℕ) → length vs ≤ max_length
      → element_cells f vs ≡ Ok cs → frames cs ≡ Some bs
      → wire_array lower_bound oid (element_cells f vs)
      ≡ Ok (Some (head_bytes (flags_of cs) lower_bound oid (be w32 (pos (length vs))) ++ bs))
  array_of vs cs bs lower_bound oid few cells framed =
      let many : length cs ≡ length vs = as_many vs cs cells in
      let fits : fits_prefix (length cs) ≡ true = grind (arith, nat_tests) in
      let count : count_bytes (length cs) ≡ Some (be w32 (pos (length vs))) =
      cond_passes (fits_prefix (length cs)) (be w32 (pos (length cs))) fits
      ∙ ap (λ n. Some (be w32 (pos n))) many in
      ap (wire_array lower_bound oid) cells
      ∙ ap wire_of (ap₂ concat (ap (option_map (head_bytes (flags_of cs) lower_bound oid)) count) framed)

  -- the head, the frames, and the flags that were put right
  pub array_appended : (lower_bound : ℤ) (oid : ℕ) (vs : List A) (old headed framed new : List ℕ)
      (null : Bool) (flags n : ℕ) → length vs ≤ max_length
      → headed ≡ old ++ head_bytes (pos 0) lower_bound oid (be w32 (pos (length vs)))
      → AppendsFrames f vs headed framed (Ok null) → flags ≡ bool_byte null → n ≡ length old
      → new ≡ take (n + number_width) framed ++ (to_be_bytes w32 flags ++ drop (n + number_width + number_width) framed)
      → (b : List ℕ) × (wire_array lower_bound oid (element_cells f vs) ≡ Ok (Some b)) × (new ≡ old ++ b)
  array_appended lower_bound oid vs old headed framed new null flags n few head (fs, said) is at set =
      let one : List ℕ = be w32 (pos 1) in
      let zero : List ℕ = be w32 (pos 0) in
      let number : List ℕ = be w32 (pos (length vs)) in
      let rest : List ℕ = to_be_bytes w32 oid ++ number ++ be w32 lower_bound in
      let start : List ℕ = head_bytes (pos 0) lower_bound oid number in
      let bytes : List ℕ = to_be_bytes w32 flags in
      let all : framed ≡ old ++ (start ++ fs.bytes) = fs.is ∙ ap (λ s. s ++ fs.bytes) head
      ∙ append_assoc old start fs.bytes in
      let right : bytes ≡ be w32 (flags_of fs.cells) = ap (to_be_bytes w32) is ∙ flags_number fs.cells null said in (
        head_bytes (flags_of fs.cells) lower_bound oid number ++ fs.bytes,
        array_of vs fs.cells fs.bytes lower_bound oid few fs.cells_are fs.frames_are,
        set ∙ ap (λ k. take (k + number_width) framed ++ (bytes ++ drop (k + number_width + number_width) framed)) at
            ∙ put_right old one zero bytes (rest ++ fs.bytes) framed refl refl all
            ∙ ap (λ y. old ++ (one ++ (y ++ (rest ++ fs.bytes)))) right,
      )

-- the head of an array without elements, in which their number was put right
pub head_counted : (lower_bound : ℤ) (oid count : ℕ) (old bare new : List ℕ) (n : ℕ)
    → bare ≡ old ++ head_bytes (pos 0) lower_bound oid (be w32 (pos 0)) → n ≡ length old
    → new ≡ take (n + 12) bare ++ (to_be_bytes w32 count ++ drop (n + 12 + number_width) bare)
    → new ≡ old ++ head_bytes (pos 0) lower_bound oid (be w32 (pos count))
head_counted lower_bound oid count old bare new n is at set =
    let front : List ℕ = old ++ (be w32 (pos 1) ++ be w32 (pos 0)) in
    let id : List ℕ = to_be_bytes w32 oid in
    let last : List ℕ = be w32 lower_bound in
    let number : List ℕ = be w32 (pos count) in
    let long : n + 12 ≡ length front + number_width = omega
    (arith, at, length-append old (be w32 (pos 1) ++ be w32 (pos 0))) in
    let apart : bare ≡ front ++ (id ++ (be w32 (pos 0) ++ last)) = is
    ∙ sym (append_assoc old (be w32 (pos 1) ++ be w32 (pos 0)) (id ++ (be w32 (pos 0) ++ last))) in
    set ∙ ap (λ k. take k bare ++ (number ++ drop (k + number_width) bare)) long
    ∙ put_right front id (be w32 (pos 0)) number last bare refl refl apart
    ∙ append_assoc old (be w32 (pos 1) ++ be w32 (pos 0)) (id ++ (number ++ last))

-- what was appended after a head is refused
pub after_head : (old headed low head : List ℕ) → headed ≡ old ++ head → take (length headed) low ≡ headed
    → take (length old) low ≡ old
after_head old headed low head is kept =
    let rest = drop (length headed) low in
    let whole : low ≡ old ++ (head ++ rest) = sym (take-append-drop (length headed) low)
    ∙ ap (λ s. s ++ rest) (kept ∙ is) ∙ append_assoc old head rest in
    ap (take (length old)) whole ∙ take-append_seam old (head ++ rest)
