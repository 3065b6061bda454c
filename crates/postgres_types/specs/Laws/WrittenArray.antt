-- The bytes of a written array are an array of the cells that its elements are written as.
use Rattle.std.specs.Prelude.{◌≡◌, ◌++◌, ℕ, ℤ, pos, List, [], ◌∷◌, length, Option, Some, None, Ok, Err, Bool, true}
use Rattle.std.specs.Prelude.{false, option_map, if◌then◌else◌, refl}
use Rattle.std.proofs.Common.{sym, ◌∙◌, ap, subst, arith, append_assoc, inl}
use Rattle.std.specs.Int.{w32, to_be_bytes}
use Rattle.pg_base.specs.Appending.{Wire, wire_of}
use Rattle.pg_base.specs.Arrays.{ArrayBody, array_bytes, array_head, flags_of}
use Rattle.pg_base.specs.Cells.{Cell, be, frame, frames}
use Rattle.pg_base.proofs.CellLaws.{frames_alone}
use Rattle.pg_base.proofs.CountLaws.{count_is}
use Rattle.pg_base.specs.Counts.{IsCount, count_bytes}
use Rattle.pg_types.specs.Faults.{Outcome, transmit}
use Rattle.pg_base.proofs.FrameLaws.{parts_of}
use Rattle.pg_base.specs.Sameness.{SameList}
use Rattle.pg_write.proofs.ElementCells.{in_front_ok}
use Rattle.pg_write.specs.ArrayWriting.{element_cells, element_frame_cell, with_frame, wire_array}

-- the cells are those that the values are written as
abbrev pub AllWritten : {A : Type 0} → (A → Wire) → List A → List Cell → Type 0
AllWritten wire = SameList (λ v c. wire v ≡ Ok c)

has_frame : (c d : Cell) (f : Option (List ℕ)) → with_frame c f ≡ Ok d → c ≡ d
has_frame c d None e = cc
has_frame c d (Some f) e = cc

frame_after_cell : (w : Wire) (c : Cell) → element_frame_cell w ≡ Ok c → w ≡ Ok c
frame_after_cell (Ok d) c e = ap Ok (has_frame d c (frame d) e)
frame_after_cell (Err r) c e = cc

-- the cells of elements are those that they are written as
pub elements_written : {A : Type 0} (wire : A → Wire) (vs : List A) (cs : List Cell) → element_cells wire vs ≡ Ok cs
    → AllWritten wire vs cs
elements_written wire [] cs e = let none : cs ≡ [] = cc in subst (AllWritten wire []) (sym none) tt
elements_written wire (v ∷ vs) cs e =
    let p = in_front_ok (element_frame_cell (wire v)) (element_cells wire vs) cs e in
    subst (AllWritten wire (v ∷ vs)) (sym p.all)
    (frame_after_cell (wire v) p.cell p.cell_is, elements_written wire vs p.others p.others_are)

mapped : (f : List ℕ → List ℕ) (o : Option (List ℕ)) (s : List ℕ) → option_map f o ≡ Some s → (x : List ℕ)
    × (o ≡ Some x) × (s ≡ f x)
mapped f None s e = cc
mapped f (Some x) s e = (x, refl, cc)

-- what cells are written as an array is an array of these cells
pub array_body : (lower_bound : ℤ) (oid : ℕ) (cs : List Cell) (b : List ℕ) → array_bytes lower_bound oid cs ≡ Some b
    → ArrayBody b (length cs) cs []
array_body lower_bound oid cs b e =
    let p = parts_of (array_head lower_bound oid cs) (frames cs) b e in
    let elements = p.second in
    let one : List ℕ = be w32 (pos 1) in
    let skipped : List ℕ = be w32 (flags_of cs) ++ to_be_bytes w32 oid in
    let first : List ℕ = be w32 lower_bound in
    let h = mapped (λ n. one ++ (be w32 (flags_of cs) ++ (to_be_bytes w32 oid ++ (n ++ first))))
    (count_bytes (length cs)) p.first p.first_is in
    let is : b ≡ one ++ (skipped ++ (h.0 ++ (first ++ elements))) = p.whole ∙ ap (λ x. x ++ elements) h.2
    ∙ ap (λ x. one ++ (skipped ++ x)) (append_assoc h.0 first elements) in
    let dimension : IsCount one 1 = (record { sfits = omega arith }, refl) in (
      elements,
      record {
        dimension_count = 1;
        count_prefix = one;
        flags_and_oid = skipped;
        remaining = h.0 ++ (first ++ elements);
        is = is;
        counts = dimension;
        width = refl;
        spells = record {
          length_bytes = h.0;
          lower_bound_bytes = first;
          is = refl;
          counts = count_is (length cs) h.0 h.1;
          width = refl;
        };
      },
      (frames_alone cs elements p.second_is, omega arith, inl refl),
    )

wire_of_bytes : (o : Option (List ℕ)) (c : Cell) → wire_of o ≡ Ok c → (b : List ℕ) × (o ≡ Some b) × (c ≡ Some b)
wire_of_bytes None c e = cc
wire_of_bytes (Some b) c e = (b, refl, cc)

-- what is known about a written array
pub record IsArrayCell (lower_bound : ℤ) (oid : ℕ) (r : Outcome (List Cell)) (c : Cell) : Type 0 where
  -- the cells of its elements, and its bytes
  pub cells : List Cell
  pub bytes : List ℕ
  pub cells_are : r ≡ Ok cells
  -- the bytes are those of the cells
  pub written : array_bytes lower_bound oid cells ≡ Some bytes
  pub is : c ≡ Some bytes

-- a written array has the bytes of cells
pub array_cell : (lower_bound : ℤ) (oid : ℕ) (r : Outcome (List Cell)) (c : Cell) → wire_array lower_bound oid r ≡ Ok c
    → IsArrayCell lower_bound oid r c
array_cell lower_bound oid (Err x) c e = let no : ⊥ = cc in absurd no
array_cell lower_bound oid (Ok cs) c e =
    let p = wire_of_bytes (array_bytes lower_bound oid cs) c e in
    record { cells = cs; bytes = p.0; cells_are = refl; written = p.1; is = p.2 }

-- a value that is not refused passes the test
pub tested : (t : Bool) (w : Wire) (c : Cell) → (if t then w else Err transmit) ≡ Ok c → (t ≡ true) × (w ≡ Ok c)
tested true w c e = (refl, e)
tested false w c e = cc
