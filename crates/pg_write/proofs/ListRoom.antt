-- How much room an array takes, and which lists have one.
use Rattle.std.proofs.Common.{◌≡◌, ◌≤◌, ◌+◌, ◌++◌, ℕ, ℤ, List, [], ◌∷◌, length, Option, Some, None, option_map, Bool}
use Rattle.std.proofs.Common.{true, false, IsOk, IsTrue, if◌then◌else◌, Ok, Err, refl, sym, ap, ap₂, ◌∙◌, subst, arith}
use Rattle.std.proofs.Common.{length-append}
use Rattle.std.specs.Int.{w32}
use Rattle.std.specs.List.{AllByRecursion}
use Rattle.std.proofs.lemmas.Bool.Decides.{nat_tests}
use Rattle.pg_base.proofs.Concat.{short_frame}
use Rattle.pg_base.specs.Appending.{Wire, wire_of}
use Rattle.pg_base.specs.ArrayTypes.{accepted_element, accepted_list, element_of}
use Rattle.pg_base.specs.Arrays.{flags_of, head_bytes}
use Rattle.pg_base.specs.Cells.{Cell, be, concat, fits_prefix, frame, frames, max_length}
use Rattle.pg_base.specs.Counts.{count_bytes, number_width}
use Rattle.pg_types.specs.Content.{Content, oid_of}
use Rattle.pg_types.specs.Faults.{Outcome, transmit}
use Rattle.pg_write.specs.ArrayWriting.{cons_cell, element_cells, element_frame_cell, lower_bound_of, wire_array}
use Rattle.pg_write.specs.ArrayWriting.{wire_by_element, wire_list, with_frame}
use Rattle.pg_write.specs.ListRoom.{ListByRoom, array_len, head_len}
use Rattle.pg_write.specs.ParamWriting.{frames_len}
use Rattle.pg_write.specs.Writing.{appended_len}
use Rattle.pg_write.proofs.ElementFrames.{array_of}
use Rattle.pg_write.proofs.ParamRoom.{count_takes, frames_take}

-- a header and frames of n bytes
both_take : (flags lower_bound : ℤ) (oid : ℕ) (count framed : Option (List ℕ)) (n : ℕ)
    → ((s : List ℕ) → count ≡ Some s → length s ≡ number_width) → ((b : List ℕ) → framed ≡ Some b → length b ≡ n)
    → IsOk (wire_of (concat (option_map (head_bytes flags lower_bound oid) count) framed))
    → appended_len (wire_of (concat (option_map (head_bytes flags lower_bound oid) count) framed)) ≡ head_len + n
both_take flags lower_bound oid None framed n counts others ok = let no : ⊥ = cc in absurd no
both_take flags lower_bound oid (Some s) None n counts others ok = let no : ⊥ = cc in absurd no
both_take flags lower_bound oid (Some s) (Some b) n counts others ok =
    omega (
      arith,
      length-append (head_bytes flags lower_bound oid s) b,
      length-append s (be w32 lower_bound),
      counts s refl,
      others b refl,
    )

-- what an array takes that has a cell
array_takes : {A : Type 0} (f : A → Wire) (vs : List A) (lower_bound : ℤ) (oid : ℕ) (r : Outcome (List Cell))
    → element_cells f vs ≡ r → IsOk (wire_array lower_bound oid r)
    → appended_len (wire_array lower_bound oid r) ≡ array_len f vs
array_takes f vs lower_bound oid (Err x) e ok = let no : ⊥ = cc in absurd no
array_takes f vs lower_bound oid (Ok cs) e ok =
    both_take (flags_of cs) lower_bound oid (count_bytes (length cs)) (frames cs) (frames_len f vs)
    (count_takes (length cs)) (λ b k. frames_take f vs cs b e k) ok

fitting_takes : (t : Bool) (w : Wire) (n : ℕ) → (IsOk w → appended_len w ≡ n) → IsOk (if t then w else Err transmit)
    → appended_len (if t then w else Err transmit) ≡ n
fitting_takes true w n takes ok = takes ok
fitting_takes false w n takes ok = let no : ⊥ = cc in absurd no

-- what a list takes that has a cell, of elements of this type
pub list_takes : {A : Type 0} (wire : Content → A → Wire) (ty element : Content) (e : Option Content) (vs : List A)
    → e ≡ Some element → IsOk (wire_by_element wire ty e vs)
    → appended_len (wire_by_element wire ty e vs) ≡ array_len (wire element) vs
list_takes wire ty element None vs is ok = let no : ⊥ = cc in absurd no
list_takes wire ty element (Some x) vs is ok =
    let same : x ≡ element = cc in
    fitting_takes (fits_prefix (length vs)) (wire_array (lower_bound_of ty) (oid_of x) (element_cells (wire x) vs))
    (array_len (wire x) vs)
    (array_takes (wire x) vs (lower_bound_of ty) (oid_of x) (element_cells (wire x) vs) refl) ok
    ∙ ap (λ y. array_len (wire y) vs) same

-- ---- lists that have a cell

-- a cell that has a frame
has_frame : (c : Cell) (m : Option (List ℕ)) → frame c ≡ m → IsOk (with_frame c m) → (b : List ℕ) × (frame c ≡ Some b)
has_frame c None e ok = let no : ⊥ = cc in absurd no
has_frame c (Some b) e ok = (b, e)

framed : (w : Wire) → IsOk (element_frame_cell w) → (c : Cell) × (b : List ℕ) × (w ≡ Ok c) × (frame c ≡ Some b)
framed (Err r) ok = let no : ⊥ = cc in absurd no
framed (Ok c) ok =
    let framed = has_frame c (frame c) refl ok in
    (c, framed.0, refl, framed.1)

-- a cell that is not too long has one
pub short_cell : (b : List ℕ) → length b ≤ max_length → IsOk (element_frame_cell (Ok (Some b)))
short_cell b few = subst (λ m. IsOk (with_frame (Some b) m)) (sym (short_frame b few).1) refl

-- what fits is not refused
fitting : (t : Bool) (w : Wire) → t ≡ true → IsOk w → IsOk (if t then w else Err transmit)
fitting true w e ok = ok
fitting false w e ok = let no : ⊥ = cc in absurd no

module _ {A : Type 0} where
  -- what holds of each value, by what holds of it otherwise
  each_then : (P Q : A → Type 0) → ((v : A) → P v → Q v) → (vs : List A) → AllByRecursion P vs → AllByRecursion Q vs
  each_then P Q f [] all = tt
  each_then P Q f (v ∷ vs) all = (f v all.0, each_then P Q f vs all.1)

  -- the cells of values of which each has a frame
  all_cells : (f : A → Wire) (vs : List A) → AllByRecursion (λ v. IsOk (element_frame_cell (f v))) vs
      → (cs : List Cell) × (bs : List ℕ) × (element_cells f vs ≡ Ok cs) × (frames cs ≡ Some bs)
  all_cells f [] all = ([], [], refl, refl)
  all_cells f (v ∷ vs) all =
      let one = framed (f v) all.0 in
      let others = all_cells f vs all.1 in (
        one.0 ∷ others.0,
        one.1 ++ others.1,
        ap (λ w. cons_cell (element_frame_cell w) (element_cells f vs)) one.2
            ∙ ap (λ m. cons_cell (with_frame one.0 m) (element_cells f vs)) one.3 ∙ ap (cons_cell (Ok one.0)) others.2,
        ap₂ concat one.3 others.3,
      )

  -- so many have an array
  has_array : (f : A → Wire) (vs : List A) (lower_bound : ℤ) (oid : ℕ) → length vs ≤ max_length
      → AllByRecursion (λ v. IsOk (element_frame_cell (f v))) vs → IsOk (wire_array lower_bound oid (element_cells f vs))
  has_array f vs lower_bound oid few all =
      let cells = all_cells f vs all in
      subst (λ w. IsOk w) (sym (array_of f vs cells.0 cells.1 lower_bound oid few cells.2 cells.3)) refl

  -- a value has a cell with a frame, for each type that is accepted
  abbrev HasFrames : (Content → Bool) → (Content → A → Wire) → A → Type 0
  HasFrames accepted wire v = (ty : Content) → IsTrue (accepted ty) → IsOk (element_frame_cell (wire ty v))

  has_list : (accepted : Content → Bool) (wire : Content → A → Wire) (ty : Content) (e : Option Content) (vs : List A)
      → length vs ≤ max_length → AllByRecursion (HasFrames accepted wire) vs → IsTrue (accepted_element accepted e)
      → IsOk (wire_by_element wire ty e vs)
  has_list accepted wire ty None vs few all ok = let no : ⊥ = cc in absurd no
  has_list accepted wire ty (Some x) vs few all ok =
      let fits : fits_prefix (length vs) ≡ true = grind (arith, nat_tests) in
      fitting (fits_prefix (length vs)) (wire_array (lower_bound_of ty) (oid_of x) (element_cells (wire x) vs)) fits
      (has_array (wire x) vs (lower_bound_of ty) (oid_of x) few
      (each_then (HasFrames accepted wire) (λ v. IsOk (element_frame_cell (wire x v))) (λ v h. h x ok) vs all))

  -- a list keeps the room rule if each value does and has a cell with a frame, and they are not too many
  pub list_by_room : (by_room : A → Type 0) (accepted : Content → Bool) (wire : Content → A → Wire) (vs : List A)
      → length vs ≤ max_length → AllByRecursion by_room vs → AllByRecursion (HasFrames accepted wire) vs
      → ListByRoom by_room (accepted_list accepted) (wire_list wire) vs
  list_by_room by_room accepted wire vs few rooms all =
      (rooms, λ ty ok. has_list accepted wire ty (element_of ty) vs few all ok)

  -- what holds of any value holds of each
  pub each_of : (P : A → Type 0) → ((v : A) → P v) → (vs : List A) → AllByRecursion P vs
  each_of P f [] = tt
  each_of P f (v ∷ vs) = (f v, each_of P f vs)
