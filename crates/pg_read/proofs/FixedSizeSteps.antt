-- Reading so many elements of an array one after another.
use Rattle.std.proofs.Common.{◌≡◌, ℕ, ◌+◌, ◌-◌, ◌<◌, ◌≤◌, true, false, List, [], ◌∷◌, ◌++◌, length, take, All}
use Rattle.std.proofs.Common.{Some, None, Ok, Err, refl, sym, subst, ◌∙◌, ap, arith, inl, inr, append_assoc}
use Rattle.std.proofs.Common.{length-append, slice_index_or}
use Rattle.std.specs.Prelude.{nat_le}
use Rattle.std.proofs.Math.Seq.{take-append-add, take-append_seam}
use Rattle.std.proofs.lemmas.Bool.Decides.{nat_tests}
use Rattle.std.proofs.lemmas.List.{take_all}
use Rattle.pg_base.specs.Arrays.{SpellsHead}
use Rattle.pg_base.specs.Cells.{AreBytes, Cell, Spells}
use Rattle.pg_base.specs.Counts.{next_checks, cell_checks, ToRead, nothing}
use Rattle.pg_types.specs.Faults.{Refusal, Outcome, excess, too_few}
use Rattle.pg_base.proofs.FormatLaws.{check_failed, checks_passed}
use Rattle.pg_base.specs.Formats.{first_fault_of}
use Rattle.pg_read.specs.ArrayReading.{ElementsAll, ReadsAll, ReadsArray, ReadsFixed, end_checks, fixed_checks}
use Rattle.pg_read.proofs.ArrayCellSteps.{HaveBeenTaken, all_remaining, all_taken, all_there, fault_more}
use Rattle.pg_read.proofs.ArrayCellSteps.{fault_stays, none_left, taken_next}

as_many : {A : Type 0} (reads : Cell → Outcome A → Type 0) (cs : List Cell) (vs : List A) → ReadsAll reads cs (Ok vs)
    → length cs ≡ length vs
as_many reads [] [] h = refl
as_many reads [] (v ∷ vs) h = absurd h
as_many reads (c ∷ cs) [] h = absurd h
as_many reads (c ∷ cs) (v ∷ vs) h = omega (arith, as_many reads cs vs h.1)

-- the first so many cells of a row that begins with no more than these
take_more : (m : ℕ) (cs ds : List Cell) → length cs ≤ m → take m (cs ++ ds) ≡ cs ++ take (m - length cs) ds
take_more m cs ds h =
    let parts : m ≡ length cs + (m - length cs) = omega (arith, h) in
    ap (λ k. take k (cs ++ ds)) parts ∙ take-append-add cs ds (m - length cs)

-- the item after so many is the next
at_seam : (cs : List Cell) (c : Cell) (ds : List Cell) → slice_index_or (cs ++ c ∷ ds) (length cs) c ≡ c
at_seam [] c ds = refl
at_seam (b ∷ cs) c ds = at_seam cs c ds

no_more : (m n : ℕ) → n ≤ m → nat_le n m ≡ true
no_more m n h = grind (arith, nat_tests)

more : (m n : ℕ) → m < n → nat_le n m ≡ false
more m n h = grind (arith, nat_tests)

module _ {A : Type 0} (reads : Cell → Outcome A → Type 0) (expected : ℕ) (b : List ℕ) (start now : ToRead)
    (cs : List Cell) (vs : List A)
    (head : SpellsHead b start) (taken : HaveBeenTaken start cs now) (values : ReadsAll reads cs (Ok vs))
    (within : length vs ≤ expected) where
  abbrev Reads : Outcome (List A) → Type 0
  Reads = ReadsArray (λ vs. vs) (ReadsFixed expected reads) (Some b)

  cells_within : length cs ≤ expected
  cells_within = omega (arith, as_many reads cs vs values, within)

  read_within : ReadsAll reads (take expected cs) (Ok vs)
  read_within = rw (take_all expected cs cells_within) values

  -- the values are the array's where nothing is to be read and the count is the array's
  pub array_ends : now ≡ nothing → length vs ≡ expected → Reads (Ok vs)
  array_ends end whole =
      let all = all_taken start now cs taken end in
      let enough : expected ≤ start.left = omega (arith, as_many reads cs vs values, all.0, whole) in
      let none_fails : first_fault_of (fixed_checks expected start.left cs []) ≡ None
      = rw (no_more expected (length cs) cells_within)
      (checks_passed (end_checks start.left cs []) ((nat_le expected start.left, too_few expected start.left) ∷ [])
      (none_left start.left cs all.0)
      ∙ (rw (no_more start.left expected enough) refl)) in
      record {
        count = start.left;
        cells = cs;
        rest = [];
        body = (start.bytes, head, all.1);
        gives = (read_within, none_fails);
      }

  -- the count is smaller
  pub array_short : now ≡ nothing → length vs < expected → Reads (Err (too_few expected start.left))
  array_short end short =
      let all = all_taken start now cs taken end in
      let fewer : start.left < expected = omega (arith, as_many reads cs vs values, all.0, short) in
      let failed : first_fault_of (fixed_checks expected start.left cs []) ≡ Some (too_few expected start.left)
      = rw (no_more expected (length cs) cells_within)
      (checks_passed (end_checks start.left cs []) ((nat_le expected start.left, too_few expected start.left) ∷ [])
      (none_left start.left cs all.0)
      ∙ (rw (more start.left expected fewer) refl)) in
      inr (record {
        count = start.left;
        cells = cs;
        rest = [];
        body = (start.bytes, head, all.1);
        gives = inr (vs, read_within, failed);
      })

  -- the next step fails
  pub array_truncated : (r : Refusal) → first_fault_of (next_checks cell_checks now) ≡ Some r → Reads (Err r)
  array_truncated r e =
      let all = all_there start now cs r taken e in
      let failed : first_fault_of (fixed_checks expected start.left cs now.bytes) ≡ Some r
      = rw (no_more expected (length cs) cells_within)
      (check_failed (end_checks start.left cs now.bytes)
      ((nat_le expected start.left, too_few expected start.left) ∷ []) r all.1) in
      inr (record {
        count = start.left;
        cells = cs;
        rest = now.bytes;
        body = (start.bytes, head, all.0);
        gives = inr (vs, read_within, failed);
      })

  module _ (next : ToRead) (t : List ℕ) (c : Cell) (bytes : AreBytes b) (n : next.left + 1 ≡ now.left)
      (is : now.bytes ≡ t ++ next.bytes) (spells : Spells t c) where
    one_more : HaveBeenTaken start (cs ++ c ∷ []) next
    one_more = taken_next start now next cs c t taken n is spells

    -- the next cell is one too many
    pub array_long : length vs ≡ expected → Reads (Err (excess expected))
    array_long full =
        let all = all_remaining b start next (cs ++ c ∷ []) head bytes one_more in
        let cells : List Cell = (cs ++ c ∷ []) ++ all.0 in
        let many : length cs ≡ expected = omega (arith, as_many reads cs vs values, full) in
        let longer : expected < length cells =
        omega (arith, length-append (cs ++ c ∷ []) all.0, length-append cs (c ∷ []), many) in
        let first : take expected cells ≡ cs
        = ap (take expected) (append_assoc cs (c ∷ []) all.0) ∙ ap (λ k. take k (cs ++ c ∷ all.0)) (sym many)
        ∙ take-append_seam cs (c ∷ all.0) in
        let failed : first_fault_of (fixed_checks expected start.left cells all.1) ≡ Some (excess expected) =
        rw (more expected (length cells) longer) refl in
        inr (record {
          count = start.left;
          cells = cells;
          rest = all.1;
          body = (start.bytes, head, all.2);
          gives = inr (vs, (rw first values), failed);
        })

    -- the next cell is refused
    pub array_refused : length vs < expected → (r : Refusal) → reads c (Err r) → Reads (Err r)
    array_refused wanted r h =
        let all = all_remaining b start next (cs ++ c ∷ []) head bytes one_more in
        let fault : ReadsAll reads (cs ++ c ∷ []) (Err r) = fault_more reads cs (c ∷ []) vs r values (inl h) in
        let few : length (cs ++ c ∷ []) ≤ expected =
        omega (arith, length-append cs (c ∷ []), as_many reads cs vs values, wanted) in
        inr (record {
          count = start.left;
          cells = (cs ++ c ∷ []) ++ all.0;
          rest = all.1;
          body = (start.bytes, head, all.2);
          gives = inl (rw (take_more expected (cs ++ c ∷ []) all.0 few)
              (fault_stays reads (cs ++ c ∷ []) (take (expected - length (cs ++ c ∷ [])) all.0) r fault));
        })

    -- what is free of memory in each of the first so many cells is so in the next one
    pub array_free : length vs < expected → (free : Cell → Type 0) → ElementsAll expected free b → free c
    array_free wanted free all_free =
        let all = all_remaining b start next (cs ++ c ∷ []) head bytes one_more in
        let few : length (cs ++ c ∷ []) ≤ expected =
        omega (arith, length-append cs (c ∷ []), as_many reads cs vs values, wanted) in
        let others = take (expected - length (cs ++ c ∷ [])) all.0 in
        let first : take expected ((cs ++ c ∷ []) ++ all.0) ≡ cs ++ c ∷ others
        = take_more expected (cs ++ c ∷ []) all.0 few ∙ append_assoc cs (c ∷ []) others in
        let each = subst (λ ds. All free ds) first
        (all_free start.left ((cs ++ c ∷ []) ++ all.0) all.1 (start.bytes, head, all.2)) in
        subst free (at_seam cs c others) (each (length cs) c (omega (arith, length-append cs (c ∷ others))))
