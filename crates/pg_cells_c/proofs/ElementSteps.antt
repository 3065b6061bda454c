-- Steps of rewriting the elements of an array.
use Rattle.std.specs.Prelude.{◌≡◌, ◌||◌, ◌≤◌, ◌+◌, ◌-◌, ℕ, zero, suc, ℤ, pos, negsuc, List, [], ◌∷◌, ◌++◌, length, take}
use Rattle.std.specs.Prelude.{drop, Bool, true, false, nat_le, is_none, is_some, not, Option, Some, None, Ok, Err, IfSome, IsSome, refl}
use Rattle.std.specs.Borrow.{Bor}
use Rattle.std.specs.Int.{w32}
use Rattle.std.specs.Option.{option_map_or}
use Rattle.std.proofs.Common.{arith, ap, sym, subst, ◌∙◌, append_assoc, append-nil, length-take, length-drop}
use Rattle.std.proofs.Math.Seq.{drop-append_seam, take-append_seam}
use Rattle.std.proofs.Math.ListN.{drop_of_length-le}
use Rattle.std.proofs.lemmas.Bool.{eqb-true, leb-true}
use Rattle.std.proofs.lemmas.Bool.Decides.{nat_tests}
use Rattle.std.proofs.lemmas.Int.{ints}
use Rattle.std.proofs.lemmas.List.{drop-drop, length-append}
use Rattle.pg_base.proofs.BitLemmas.{first_bits_len, packed_len}
use Rattle.pg_base.proofs.CellLaws.{cell_by as law_cell_by, cell_then}
use Rattle.pg_base.proofs.Completeness.{both_pass, first_passes, right_length}
use Rattle.pg_base.proofs.FrameLaws.{bytes-frame, fits_length, frame-bytes}
use Rattle.pg_base.specs.Arrays.{has_null}
use Rattle.pg_base.specs.Bits.{bytes_for, first_bits, packed}
use Rattle.pg_base.specs.Cells.{Cell, Spells, be, cell_of, frame, frames, max_length}
use Rattle.pg_base.specs.Counts.{ToRead, after_number, bytes_in, cell_checks, count_checks, has_number, length_check}
use Rattle.pg_base.specs.Counts.{next_checks, nothing, number_in}
use Rattle.pg_base.specs.Formats.{first_fault_of}
use Rattle.pg_base.specs.Network.{head_len, host_check, inet_checks}
use Rattle.pg_cells_c.specs.Elements.{FitsInto, WritesFrame, WritesFrames, cell_by, cell_in, cons_cell}
use Rattle.pg_cells_c.specs.Elements.{prepend, rewritten_cell, rewritten_cells, some_cell}
use Rattle.pg_cells_c.specs.Kinds.{WritesOutcome, bit_count, or_fault, rewritten, with_zero_pad, without_flag}
use Rattle.pg_cells_c.specs.Writings.{WritesInto}
use Rattle.pg_cells_c.specs.declared.rewrite.elements.Frames.{Frames}
use Rattle.pg_cells_c.specs.declared.rewrite.kinds.Kind.{Kind}
use Rattle.pg_cells_c.specs.declared.rewrite.kinds.Kind.TheVariants as kind
use Rattle.pg_types.specs.Faults.{Outcome, Refusal, code_of, number_of, refusal_of, size, was_null}
use Rattle.pg_types.specs.declared.fault.Fault.{Fault}
use Rattle.pg_base.proofs.Concat.{next_frames}
use Rattle.pg_base.proofs.CellRows.{null_append}

-- ---- a new cell is as long as the old one
or_ok : (fault : Option Refusal) (x c : List ℕ) → or_fault fault x ≡ Ok c → (fault ≡ None) × (c ≡ x)
or_ok None x c e = (refl, cc)
or_ok (Some r) x c e = let no : ⊥ = cc in absurd no

flag_length : (b : List ℕ) → 4 ≤ length b → length (without_flag b) ≡ length b
flag_length b h =
    let len = length-append (take 2 b) (0 ∷ drop 3 b) in
    let front : length (take 2 b) ≡ 2 = simp length-take (omega (arith, h)) in
    let rest : length (drop 3 b) ≡ length b - 3 = length-drop 3 b in
    omega (arith, len, front, rest, h)

head_whole : (b : List ℕ) → first_fault_of (inet_checks b) ≡ None → 4 ≤ length b
head_whole b e = leb-true head_len (length b) (first_passes (nat_le head_len (length b)) size _ e).0

pad_length : (b : List ℕ) → first_fault_of (count_checks b ++ length_check (bytes_for (bit_count b)) (after_number b) ∷ [])
    ≡ None → length (with_zero_pad b) ≡ length b
pad_length b e =
    let parts = both_pass (count_checks b) (length_check (bytes_for (bit_count b)) (after_number b) ∷ []) e in
    let whole = leb-true 4 (length b) (first_passes (has_number b) size _ parts.0).0 in
    let many = eqb-true (length (after_number b)) (bytes_for (bit_count b)) (first_passes _ size None parts.1).0 in
    let n = bit_count b in
    let len = length-append (be w32 (pos n)) (packed (first_bits n (after_number b))) in
    let bytes = packed_len (first_bits n (after_number b)) ∙ ap bytes_for (first_bits_len n (after_number b)) in
    let rest = length-drop 4 b in
    omega (arith, len, bytes, many, rest, whole)

pub same_length : (k : Kind) (b c : List ℕ) → rewritten k b ≡ Ok c → length c ≡ length b
same_length kind.Bool b c e = let p = or_ok _ _ c e in ap length p.1 ∙ sym (right_length 1 b p.0)
same_length kind.Bytea b c e = ap length (or_ok None b c e).1
same_length kind.Text b c e = ap length (or_ok _ _ c e).1
same_length (kind.Fixed width) b c e = ap length (or_ok _ _ c e).1
same_length kind.Bits b c e = let p = or_ok _ _ c e in ap length p.1 ∙ pad_length b p.0
same_length kind.Inet b c e = let p = or_ok _ _ c e in ap length p.1 ∙ flag_length b (head_whole b p.0)
same_length kind.Cidr b c e =
    let p = or_ok _ _ c e in
    ap length p.1 ∙ flag_length b (head_whole b (both_pass (inet_checks b) (host_check (drop head_len b) _ ∷ []) p.0).0)

length_by : (o : Outcome (List ℕ)) (b old new : List ℕ) (n : ℕ) → ((c : List ℕ) → o ≡ Ok c → length c ≡ length b)
    → WritesOutcome o old new (Ok n) → n ≡ length b
unfolding WritesInto WritesOutcome
length_by (Ok c) b old new n same h = h.1 ∙ same c refl
length_by (Err r) b old new n same h = absurd h

-- so the answer is the length of the old one
pub outcome_length : (k : Kind) (b old new : List ℕ) (n : ℕ) → WritesOutcome (rewritten k b) old new (Ok n)
    → n ≡ length b
outcome_length k b old new n = length_by (rewritten k b) b old new n (same_length k b)

-- ---- frames
-- bytes that fit are at the front
pub in_front : (s old new : List ℕ) (n : ℕ) → WritesInto s old new n → FitsInto s old new
unfolding WritesInto
in_front s old new n h fits =
    let is : nat_le (length s) (length old) ≡ true = grind (arith, nat_tests) in
    rw is at h.0

pub so_many : (s old new : List ℕ) (n : ℕ) → WritesInto s old new n → n ≡ length s
unfolding WritesInto
so_many s old new n h = h.1

-- the parts of a frame fit where the frame does
frame_fits : (c head old front rest new front_new rest_new : List ℕ) → length head ≡ 4 → old ≡ front ++ rest
    → (4 ≤ length old → length front ≡ 4) → FitsInto head front front_new → FitsInto c rest rest_new
    → new ≡ front_new ++ rest_new → FitsInto (head ++ c) old new
frame_fits c head old front rest new front_new rest_new four parts wide head_fits cell_fits is room =
    let len : length (head ++ c) ≡ 4 + length c = length-append head c ∙ ap (λ n. n + length c) four in
    let all : length old ≡ length front + length rest = ap length parts ∙ length-append front rest in
    let whole : length front ≡ 4 = wide (omega (arith, len, room)) in
    let head_is = head_fits (omega (arith, four, whole)) in
    let cell_is = cell_fits (omega (arith, len, all, whole, room)) in
    let nothing_left : drop (length head) front ≡ [] = drop_of_length-le front (omega (arith, four, whole)) in
    let left : drop (length (head ++ c)) old ≡ drop (length c) rest =
    ap (λ n. drop n old) (len ∙ ap (λ n. n + length c) (sym whole)) ∙ ap (drop (length front + length c)) parts
    ∙ sym (drop-drop (length c) (length front) (front ++ rest)) ∙ ap (drop (length c)) (drop-append_seam front rest) in
    is ∙ ap (λ x. x ++ rest_new) (head_is ∙ ap (λ x. head ++ x) nothing_left ∙ append-nil head)
    ∙ ap (λ x. head ++ x) cell_is ∙ sym (append_assoc head c (drop (length c) rest))
    ∙ ap (λ x. (head ++ c) ++ x) (sym left)

-- the frame of a new cell
frame_is : (c : List ℕ) → length c ≤ max_length → frame (Some c) ≡ Some (be w32 (pos (length c)) ++ c)
frame_is c short =
    frame-bytes (be w32 (pos (length c))) c (fits_length (length c) (grind (arith, nat_tests)), refl)

frame_by : (o : Outcome (List ℕ)) (old front rest new front_new rest_new : List ℕ) (len written n : ℕ)
    → ((c : List ℕ) → o ≡ Ok c → length c ≤ max_length) → old ≡ front ++ rest
    → (4 ≤ length old → length front ≡ 4) → WritesOutcome o rest rest_new (Ok len)
    → WritesInto (be w32 (pos len)) front front_new written → new ≡ front_new ++ rest_new → n ≡ 4 + len
    → WritesFrame (some_cell o) old new (Ok n)
unfolding WritesFrame WritesOutcome
frame_by (Ok c) old front rest new front_new rest_new len written n short parts wide cell head is sum =
    let many = so_many c rest rest_new len cell in
    let prefix = subst (λ m. FitsInto (be w32 (pos m)) front front_new) many
    (in_front (be w32 (pos len)) front front_new written head) in (
      be w32 (pos (length c)) ++ c,
      frame_is c (short c refl),
      sum ∙ ap (λ m. 4 + m) many ∙ sym (length-append (be w32 (pos (length c))) c),
      frame_fits c (be w32 (pos (length c))) old front rest new front_new rest_new refl parts wide prefix
          (in_front c rest rest_new len cell) is,
    )
frame_by (Err r) old front rest new front_new rest_new len written n short parts wide cell head is sum = absurd cell

-- a cell that is no longer than a length can say is rewritten to a frame
pub frame_written : (k : Kind) (nullable : Bool) (b old front rest new front_new rest_new : List ℕ) (len written n : ℕ)
    → length b ≤ max_length → old ≡ front ++ rest → (4 ≤ length old → length front ≡ 4)
    → WritesOutcome (rewritten k b) rest rest_new (Ok len) → WritesInto (be w32 (pos len)) front front_new written
    → new ≡ front_new ++ rest_new → n ≡ 4 + len → WritesFrame (rewritten_cell k nullable (Some b)) old new (Ok n)
frame_written k nullable b old front rest new front_new rest_new len written n short =
    frame_by (rewritten k b) old front rest new front_new rest_new len written n
    (λ c e. let same = same_length k b c e in omega (arith, same, short))

-- and is refused with its fault
frame_refused_by : (o : Outcome (List ℕ)) (rest rest_new old new : List ℕ) (n m : ℕ)
    → WritesOutcome o rest rest_new (Err n) → m ≡ n → WritesFrame (some_cell o) old new (Err m)
unfolding WritesFrame WritesOutcome
frame_refused_by (Ok c) rest rest_new old new n m h e = absurd h
frame_refused_by (Err r) rest rest_new old new n m h e = e ∙ h.1

pub frame_refused : (k : Kind) (nullable : Bool) (b rest rest_new old new : List ℕ) (n m : ℕ)
    → WritesOutcome (rewritten k b) rest rest_new (Err n) → m ≡ n
    → WritesFrame (rewritten_cell k nullable (Some b)) old new (Err m)
frame_refused k nullable b = frame_refused_by (rewritten k b)

-- NULL has a frame where it is one of the elements
pub null_written : (k : Kind) (c : Cell) (nullable : Bool) (old new : List ℕ) (n : ℕ) → c ≡ None → nullable ≡ true
    → WritesInto (be w32 (negsuc 0)) old new n → WritesFrame (rewritten_cell k nullable c) old new (Ok n)
unfolding WritesFrame
null_written k c nullable old new n none may h =
    let null = be w32 (negsuc 0) in
    rw (none, may) (null, refl, so_many null old new n h, in_front null old new n h)

-- and else it is refused
pub null_refused : (k : Kind) (c : Cell) (nullable : Bool) (old new : List ℕ) (n : ℕ) → c ≡ None → nullable ≡ false
    → n ≡ number_of was_null → WritesFrame (rewritten_cell k nullable c) old new (Err n)
unfolding WritesFrame
null_refused k c nullable old new n none may h = rw (none, may) h

-- ---- the elements, one after another
same_cell : (z : ℤ) (x : List ℕ) → cell_by z x ≡ law_cell_by z x
same_cell (pos n) x = refl
same_cell (negsuc n) x = refl

pub step_at : (k : Kind) (nullable : Bool) (n : ℕ) (t u : List ℕ) (c : Cell) → Spells t c
    → rewritten_cells k nullable (suc n) (t ++ u)
    ≡ cons_cell (rewritten_cell k nullable c) (rewritten_cells k nullable n u)
step_at k nullable n t u c spells =
    let p = cell_then t u c spells in
    let cell : cell_in (t ++ u) ≡ c = same_cell (number_in (t ++ u)) (bytes_in (t ++ u)) ∙ p.cell in
    rw (p.has, p.whole, cell, p.rest) refl

stop_at : (k : Kind) (nullable : Bool) (n : ℕ) (s : List ℕ) (q : Refusal)
    → first_fault_of (next_checks cell_checks (record { left = n; bytes = s })) ≡ Some q
    → rewritten_cells k nullable n s ≡ Err q
stop_at k nullable zero s q e = rw e refl
stop_at k nullable (suc n) s q e = rw e refl

prepend_none : (o : Outcome (List Cell)) → o ≡ prepend [] o
prepend_none (Ok ds) = refl
prepend_none (Err r) = refl

prepend_more : (ds : List Cell) (d : Cell) (o : Outcome (List Cell))
    → prepend ds (cons_cell (Ok d) o) ≡ prepend (ds ++ d ∷ []) o
prepend_more ds d (Ok es) = ap Ok (sym (append_assoc ds (d ∷ []) es))
prepend_more ds d (Err r) = refl

-- NULL stays NULL, and no other cell becomes it
some_kept : (o : Outcome (List ℕ)) (d : Cell) → some_cell o ≡ Ok d → (c : List ℕ) × (o ≡ Ok c) × (d ≡ Some c)
some_kept (Ok c) d e = (c, refl, cc)
some_kept (Err r) d e = let no : ⊥ = cc in absurd no

null_kept : (k : Kind) (nullable : Bool) (d : Cell) → rewritten_cell k nullable None ≡ Ok d → d ≡ None
null_kept k true d e = cc
null_kept k false d e = let no : ⊥ = cc in absurd no

none_kept : (k : Kind) (nullable : Bool) (c d : Cell) → rewritten_cell k nullable c ≡ Ok d → is_none d ≡ is_none c
none_kept k nullable None d e = ap is_none (null_kept k nullable d e)
none_kept k nullable (Some b) d e = ap is_none (some_kept (rewritten k b) d e).2

-- and its frame is as long as that of the old one
frame_length : (k : Kind) (nullable : Bool) (c d : Cell) (t f : List ℕ) → rewritten_cell k nullable c ≡ Ok d → Spells t c
    → frame d ≡ Some f → length f ≡ length t
frame_length k nullable None d t f e spells g =
    let none : frame None ≡ Some f = ap frame (sym (null_kept k nullable d e)) ∙ g in
    let is : f ≡ be w32 (negsuc 0) = cc in
    ap length is ∙ sym (ap length spells.1.1)
frame_length k nullable (Some b) d t f e spells g =
    let kept = some_kept (rewritten k b) d e in
    let old = bytes-frame t b spells in
    let new = bytes-frame f kept.0 (ap frame (sym kept.2) ∙ g) in
    let same = same_length k b kept.0 kept.1 in
    let old_len : length t ≡ 4 + length b = ap length old.1 ∙ length-append old.0 b
    ∙ ap (λ n. n + length b) (ap length old.2.1) in
    let new_len : length f ≡ 4 + length kept.0 = ap length new.1 ∙ length-append new.0 kept.0
    ∙ ap (λ n. n + length kept.0) (ap length new.2.1) in
    omega (arith, old_len, new_len, same)

-- a cell that has a frame is no longer than a length can say
pub short_cell : (t : List ℕ) (c : Option (Bor (List ℕ))) → Spells t (cell_of c)
    → IfSome c (λ x. length x.now ≤ max_length)
short_cell t None spells = tt
short_cell t (Some x) spells =
    let parts = bytes-frame t x.now spells in omega (arith, ints, parts.2.0)

-- whether an element is NULL
pub cell_none : (c : Option (Bor (List ℕ))) (null : Bool) → is_some c ≡ not null → null ≡ is_none (cell_of c)
cell_none None true e = refl
cell_none None false e = let no : ⊥ = cc in absurd no
cell_none (Some x) true e = let no : ⊥ = cc in absurd no
cell_none (Some x) false e = refl

-- what a walk over the elements has rewritten so far
pub record SoFar (k : Kind) (nullable : Bool) (start : ToRead) (old : List ℕ) (now : ToRead) (len : ℕ) (null : Bool)
    (out : List ℕ) : Type 0 where
  -- the new cells
  pub cells : List Cell
  -- the bytes of their frames
  pub bytes : List ℕ
  pub are : frames cells ≡ Some bytes
  pub is_len : len ≡ length bytes
  pub is_null : null ≡ has_null cells
  -- how many elements are left
  pub many : length cells + now.left ≡ start.left
  -- those that are left come after the new cells
  pub rest : rewritten_cells k nullable start.left start.bytes
      ≡ prepend cells (rewritten_cells k nullable now.left now.bytes)
  -- the frames are no longer than what was read
  pub room : len + length now.bytes ≤ length start.bytes
  pub size : length out ≡ length old
  pub fits : FitsInto bytes old out

pub nothing_yet : (k : Kind) (nullable : Bool) (start : ToRead) (old : List ℕ) → SoFar k nullable start old start 0 false old
nothing_yet k nullable start old = record {
  cells = [];
  bytes = [];
  are = refl;
  is_len = refl;
  is_null = refl;
  many = omega arith;
  rest = prepend_none (rewritten_cells k nullable start.left start.bytes);
  room = omega arith;
  size = refl;
  fits = λ h. refl;
}

-- one more frame fits where all fit
more_fits : (s f old out rest_new out_new : List ℕ) (len start : ℕ) → len ≡ length s → length out ≡ length old
    → (len ≤ length out → start ≡ len) → FitsInto s old out → FitsInto f (drop start out) rest_new
    → out_new ≡ take start out ++ rest_new → FitsInto (s ++ f) old out_new
more_fits s f old out rest_new out_new len start is_len same at_end fits more is room =
    let sum = length-append s f in
    let out_is = fits (omega (arith, sum, room)) in
    let place : start ≡ length s = at_end (omega (arith, sum, room, same, is_len)) ∙ is_len in
    let rest_old : drop start out ≡ drop (length s) old =
    ap (λ n. drop n out) place ∙ ap (drop (length s)) out_is ∙ drop-append_seam s (drop (length s) old) in
    let front : take start out ≡ s =
    ap (λ n. take n out) place ∙ ap (take (length s)) out_is ∙ take-append_seam s (drop (length s) old) in
    let left = ap length rest_old ∙ length-drop (length s) old in
    let rest_is = more (omega (arith, sum, room, left)) in
    is ∙ ap (λ x. x ++ rest_new) front ∙ ap (λ x. s ++ x) rest_is
    ∙ ap (λ x. s ++ (f ++ drop (length f) x)) rest_old
    ∙ ap (λ x. s ++ (f ++ x)) (drop-drop (length f) (length s) old) ∙ sym (append_assoc s f _)
    ∙ ap (λ n. (s ++ f) ++ drop n old) (sym sum)

module _ (k : Kind) (nullable : Bool) (start : ToRead) (old : List ℕ) (now : ToRead) (len : ℕ) (null : Bool)
    (out : List ℕ) (h : SoFar k nullable start old now len null out) where
  -- the next element
  module _ (next : ToRead) (c : Cell) (t : List ℕ) (fewer : next.left + 1 ≡ now.left) (is : now.bytes ≡ t ++ next.bytes)
      (spells : Spells t c) where
    step_by : (m : ℕ) → next.left + 1 ≡ m → rewritten_cells k nullable m now.bytes
        ≡ cons_cell (rewritten_cell k nullable c) (rewritten_cells k nullable next.left next.bytes)
    step_by zero e = absurd (omega (arith, e))
    step_by (suc m) e =
        let same : m ≡ next.left = omega (arith, e) in
        ap (rewritten_cells k nullable (suc m)) is ∙ step_at k nullable m t next.bytes c spells
        ∙ ap (λ n. cons_cell (rewritten_cell k nullable c) (rewritten_cells k nullable n next.bytes)) same

    after : rewritten_cells k nullable start.left start.bytes
        ≡ prepend h.cells (cons_cell (rewritten_cell k nullable c) (rewritten_cells k nullable next.left next.bytes))
    after = h.rest ∙ ap (prepend h.cells) (step_by now.left fewer)

    room_by : (o : Outcome Cell) (rest_old rest_new : List ℕ) (n : ℕ) → rewritten_cell k nullable c ≡ o
        → WritesFrame o rest_old rest_new (Ok n) → len + n + length next.bytes ≤ length start.bytes
    unfolding WritesFrame
    room_by (Ok d) rest_old rest_new n e w =
        let same = frame_length k nullable c d t w.0 e spells w.1 in
        let bytes = ap length is ∙ length-append t next.bytes in
        omega (arith, h.room, bytes, same, w.2)
    room_by (Err r) rest_old rest_new n e w = absurd w

    pub frame_room : (rest_old rest_new : List ℕ) (n : ℕ)
        → WritesFrame (rewritten_cell k nullable c) rest_old rest_new (Ok n)
        → len + n + length next.bytes ≤ length start.bytes
    frame_room rest_old rest_new n w = room_by (rewritten_cell k nullable c) rest_old rest_new n refl w

    one_more_by : (o : Outcome Cell) (place n len_new : ℕ) (null_new : Bool) (rest_new out_new : List ℕ)
        → rewritten_cell k nullable c ≡ o → (len ≤ length out → place ≡ len)
        → WritesFrame o (drop place out) rest_new (Ok n) → out_new ≡ take place out ++ rest_new
        → length out_new ≡ length out → len_new ≡ len + n → null_new ≡ (null || is_none c)
        → SoFar k nullable start old next len_new null_new out_new
    unfolding WritesFrame
    one_more_by (Ok d) place n len_new null_new rest_new out_new e at_end w out_is same sum null_is =
        let room = room_by (Ok d) (drop place out) rest_new n e w in
        record {
          cells = h.cells ++ d ∷ [];
          bytes = h.bytes ++ w.0;
          are = next_frames h.cells d h.bytes w.0 h.are w.1;
          is_len = sum ∙ (let both = length-append h.bytes w.0 in omega (arith, both, h.is_len, w.2));
          is_null = null_is ∙ ap (λ p. p || is_none c) h.is_null
              ∙ ap (λ p. has_null h.cells || p) (sym (none_kept k nullable c d e)) ∙ sym (null_append h.cells d);
          many = let both = length-append h.cells (d ∷ []) in omega (arith, both, h.many, fewer);
          rest = after ∙ ap (λ o. prepend h.cells (cons_cell o (rewritten_cells k nullable next.left next.bytes))) e
              ∙ prepend_more h.cells d (rewritten_cells k nullable next.left next.bytes);
          room = omega (arith, room, sum);
          size = same ∙ h.size;
          fits = more_fits h.bytes w.0 old out rest_new out_new len place h.is_len h.size at_end h.fits w.3 out_is;
        }
    one_more_by (Err r) place n len_new null_new rest_new out_new e at_end w out_is same sum null_is = absurd w

    pub one_more : (place n len_new : ℕ) (null_new : Bool) (rest_new out_new : List ℕ)
        → (len ≤ length out → place ≡ len) → WritesFrame (rewritten_cell k nullable c) (drop place out) rest_new (Ok n)
        → out_new ≡ take place out ++ rest_new → length out_new ≡ length out → len_new ≡ len + n
        → null_new ≡ (null || is_none c) → SoFar k nullable start old next len_new null_new out_new
    one_more place n len_new null_new rest_new out_new =
        one_more_by (rewritten_cell k nullable c) place n len_new null_new rest_new out_new refl

    refused_by : (o : Outcome Cell) (rest_old rest_new new : List ℕ) (n m : ℕ) → rewritten_cell k nullable c ≡ o
        → WritesFrame o rest_old rest_new (Err n) → m ≡ n
        → WritesFrames (rewritten_cells k nullable start.left start.bytes) old new (Err m)
    unfolding WritesFrame WritesFrames
    refused_by (Ok d) rest_old rest_new new n m e w same = absurd w
    refused_by (Err r) rest_old rest_new new n m e w same =
        let fails : rewritten_cells k nullable start.left start.bytes ≡ Err r = after
        ∙ ap (λ o. prepend h.cells (cons_cell o (rewritten_cells k nullable next.left next.bytes))) e in
        rw fails (same ∙ w)

    pub element_refused : (rest_old rest_new new : List ℕ) (n m : ℕ)
        → WritesFrame (rewritten_cell k nullable c) rest_old rest_new (Err n) → m ≡ n
        → WritesFrames (rewritten_cells k nullable start.left start.bytes) old new (Err m)
    element_refused rest_old rest_new new n m = refused_by (rewritten_cell k nullable c) rest_old rest_new new n m refl

  next_fails : (new : List ℕ) (n : ℕ) (fault : Option Refusal)
      → IfSome fault (λ q. first_fault_of (next_checks cell_checks now) ≡ Some q) → IsSome fault
      → n ≡ option_map_or number_of fault 1
      → WritesFrames (rewritten_cells k nullable start.left start.bytes) old new (Err n)
  unfolding WritesFrames
  next_fails new n (Some q) fails is number =
      let stops : rewritten_cells k nullable start.left start.bytes ≡ Err q = h.rest
      ∙ ap (prepend h.cells) (stop_at k nullable now.left now.bytes q fails) in
      rw stops number
  next_fails new n None fails is number = absurd (cc)

  -- what comes next is damaged
  pub next_refused : (new : List ℕ) (n : ℕ) (f : Fault)
      → IfSome (refusal_of f) (λ q. first_fault_of (next_checks cell_checks now) ≡ Some q) → IsSome (refusal_of f)
      → n ≡ code_of f → WritesFrames (rewritten_cells k nullable start.left start.bytes) old new (Err n)
  next_refused new n f = next_fails new n (refusal_of f)

  -- nothing comes next
  pub all_written : now ≡ nothing → (f : Frames) → f.count ≡ start.left → f.len ≡ len → f.has_null ≡ null
      → WritesFrames (rewritten_cells k nullable start.left start.bytes) old out (Ok f)
  unfolding WritesFrames
  all_written end f count is_len is_null =
      let all : rewritten_cells k nullable start.left start.bytes ≡ Ok h.cells = h.rest
      ∙ ap (λ (r : ToRead). prepend h.cells (rewritten_cells k nullable r.left r.bytes)) end
      ∙ ap Ok (append-nil h.cells) in
      let left : now.left ≡ 0 = ap (λ (r : ToRead). r.left) end in
      rw all (record {
        bytes = h.bytes;
        are = h.are;
        count = count ∙ (omega (arith, h.many, left));
        len = is_len ∙ h.is_len;
        null = is_null ∙ h.is_null;
        fits = h.fits;
      })
