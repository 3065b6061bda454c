-- The frame of a parameter, after what the buffer held.
use Rattle.std.proofs.Common.{◌≡◌, ◌<◌, ◌≤◌, ◌+◌, ◌++◌, ℕ, pos, List, length, take, drop, Option, Some, None, IfNone, Bool, true}
use Rattle.std.proofs.Common.{false, is_none, cond, Result, Ok, Err, IfSome, refl, ap, sym, ◌∙◌, subst, arith}
use Rattle.std.proofs.Common.{append_assoc, length-append}
use Rattle.std.specs.Bool.{⊤}
use Rattle.std.specs.Int.{to_be_bytes, w32}
use Rattle.std.proofs.Math.Seq.{take-append_seam}
use Rattle.std.proofs.lemmas.Bool.Decides.{nat_tests}
use Rattle.std.proofs.lemmas.List.{drop_at}
use Rattle.pg_base.specs.Appending.{Wire}
use Rattle.pg_base.specs.Cells.{be, frame, fits_prefix, max_length}
use Rattle.pg_base.specs.Counts.{number_width}
use Rattle.pg_types.specs.Faults.{Refusal, refusal_of, transmit}
use Rattle.pg_types.specs.declared.fault.Fault.{Fault}
use Rattle.pg_types.specs.declared.format.IsNull.TheVariants.{No}
use Rattle.pg_write.specs.ArrayWriting.{element_frame_cell, with_frame}
use Rattle.pg_write.specs.ParamWriting.{AppendsFrameOrPart, FrameFollows, FramesFrom}
use Rattle.pg_write.specs.Writing.{Writes}
use Rattle.pg_base.proofs.Concat.{cond_passes}

cond_fails : (t : Bool) (b : List ℕ) → t ≡ false → cond t (Some b) None ≡ None
cond_fails true b e = let no : ⊥ = cc in absurd no
cond_fails false b e = refl

-- and fewer have their number and themselves as their frame
pub frame_bytes : (b : List ℕ) (n : ℕ) → length b ≤ max_length → n ≡ length b → frame (Some b)
    ≡ Some (to_be_bytes w32 n ++ b)
frame_bytes b n h e =
    let t : fits_prefix (length b) ≡ true = grind (arith, nat_tests) in
    cond_passes (fits_prefix (length b)) (be w32 (pos (length b)) ++ b) t
    ∙ ap (λ y. Some (to_be_bytes w32 y ++ b)) (sym e)

module _ (old head b written : List ℕ) (four : length head ≡ number_width) (is : written ≡ (old ++ head) ++ b) where
  -- what the buffer held comes first
  front : take (length old) written ≡ old
  front = ap (take (length old)) (is ∙ append_assoc old head b) ∙ take-append_seam old (head ++ b)

  -- and after it, past the length, the cell
  cell_is : drop (length old + number_width) written ≡ b
  cell_is =
      let n : length (old ++ head) ≡ length old + number_width = omega (arith, four, length-append old head) in
      ap (drop (length old + number_width)) is ∙ drop_at (old ++ head) b (length old + number_width) n

-- a cell that was written after four bytes, which became its length, is not NULL
pub some_after_cell : {u : ⊤} (w : Wire) (old head mid written new : List ℕ) (n : ℕ) → n ≡ length old
    → length head ≡ number_width → mid ≡ old ++ head → Writes w mid written (Ok No) → FramesFrom n written new (Ok u)
    → (f : FrameFollows w old new) × (is_none f.cell ≡ false)
some_after_cell w old head mid written new n at four m cell gives =
    let is : written ≡ (old ++ head) ++ cell.0 = cell.2 ∙ ap (λ s. s ++ cell.0) m in
    let whole : frame (Some cell.0) ≡ Some gives.0 =
    ap (λ s. frame (Some s)) (sym (cell_is old head cell.0 written four is))
    ∙ ap (λ k. frame (Some (drop (k + number_width) written))) (sym at) ∙ gives.1 in (
      record {
        cell = Some cell.0;
        bytes = gives.0;
        cell_is = cell.1;
        frame_is = whole;
        is = gives.2 ∙ ap (λ k. take k written ++ gives.0) at
            ∙ ap (λ s. s ++ gives.0) (front old head cell.0 written four is);
      },
      refl,
    )

-- it has its frame, or is too long for one
pub frame_after_cell : (w : Wire) (old head mid written new : List ℕ) (n : ℕ) (r : Result ⊤ Fault) → n ≡ length old
    → length head ≡ number_width → mid ≡ old ++ head → Writes w mid written (Ok No)
    → FramesFrom n written new r → AppendsFrameOrPart w old new r
frame_after_cell w old head mid written new n (Ok done) at four m cell gives =
    (some_after_cell w old head mid written new n at four m cell gives).0
frame_after_cell w old head mid written new n (Err f) at four m cell gives =
    let is : written ≡ (old ++ head) ++ cell.0 = cell.2 ∙ ap (λ s. s ++ cell.0) m in
    let none : frame (Some cell.0) ≡ None = ap (λ s. frame (Some s)) (sym (cell_is old head cell.0 written four is))
    ∙ ap (λ k. frame (Some (drop (k + number_width) written))) (sym at) ∙ gives.2 in
    let refused : element_frame_cell w ≡ Err transmit = ap element_frame_cell cell.1
    ∙ ap (with_frame (Some cell.0)) none in (
      ap (take (length old)) gives.0 ∙ front old head cell.0 written four is,
      subst
          (λ x. IfSome (refusal_of x) (λ r. element_frame_cell w ≡ Err r)) (sym gives.1) refused,
    )

-- where there was no room for a cell after four bytes, there was none before for its frame
pub had_less_room : (o : Option Refusal) (len old mid : ℕ) → IfNone o (mid < len) → old ≤ mid + number_width
    → IfNone o (old < number_width + len)
had_less_room None len old mid h k = omega (arith, h, k)
had_less_room (Some r) len old mid h k = h
