-- Reading the elements of an array one after another.
use Rattle.std.proofs.Common.{◌≡◌, ◌≢◌, ℕ, zero, suc, ◌+◌, ◌-◌, ◌<◌, ◌≤◌, ◌==◌, Bool, true, false, List, [], ◌∷◌}
use Rattle.std.proofs.Common.{◌++◌, length, Some, None, Ok, Err, refl, sym, ◌∙◌, ap, subst, arith, inl, inr}
use Rattle.std.proofs.Common.{length-append}
use Rattle.std.specs.Prelude.{◌⊎◌, Option, nat_le}
use Rattle.std.proofs.lemmas.Bool.Decides.{nat_tests}
use Rattle.pg_base.specs.Arrays.{SpellsHead}
use Rattle.pg_base.proofs.CellLaws.{no_cell}
use Rattle.pg_base.specs.Cells.{AreBytes, Cell, Spells, SpellsAll, SpellsNone, CellsInRow}
use Rattle.pg_types.specs.Content.{Content}
use Rattle.pg_base.specs.Counts.{checks_of_next, next_checks, cell_checks, ToRead, has_cell, has_number, nothing}
use Rattle.pg_types.specs.Faults.{Refusal, Outcome, size}
use Rattle.pg_base.specs.Formats.{first_fault_of}
use Rattle.pg_base.proofs.CellRows.{cells_exist, head_bytes, row_bytes, spelled_more}
use Rattle.pg_read.specs.ArrayReading.{ReadsAll, ReadsElements, ReadsList, ReadsByElement, end_checks}

-- between the start and now these cells were taken
pub record HaveBeenTaken (start : ToRead) (cs : List Cell) (now : ToRead) : Type 0 where
  pub so_many : length cs + now.left ≡ start.left
  pub spelled : SpellsAll start.bytes cs now.bytes

-- the next cell is one more
pub taken_next : (start now next : ToRead) (cs : List Cell) (c : Cell) (t : List ℕ) → HaveBeenTaken start cs now
    → next.left + 1 ≡ now.left → now.bytes ≡ t ++ next.bytes → Spells t c
    → HaveBeenTaken start (cs ++ c ∷ []) next
taken_next start now next cs c t h n is p = record {
  so_many = omega (arith, h.so_many, length-append cs (c ∷ []));
  spelled = spelled_more start.bytes now.bytes next.bytes cs (c ∷ []) h.spelled
      (record { front = t; rest = next.bytes; is = is; spells = p; rest_spells = refl });
}

module _ {A : Type 0} (reads : Cell → Outcome A → Type 0) where
  values_more : (cs ds : List Cell) (vs ws : List A) → ReadsAll reads cs (Ok vs) → ReadsAll reads ds (Ok ws)
      → ReadsAll reads (cs ++ ds) (Ok (vs ++ ws))
  values_more [] ds [] ws h k = k
  values_more [] ds (v ∷ vs) ws h k = absurd h
  values_more (c ∷ cs) ds [] ws h k = absurd h
  values_more (c ∷ cs) ds (v ∷ vs) ws h k = (h.0, values_more cs ds vs ws h.1 k)

  -- and its value is one more
  pub value_next : (cs : List Cell) (c : Cell) (vs : List A) (v : A) → ReadsAll reads cs (Ok vs) → reads c (Ok v)
      → ReadsAll reads (cs ++ c ∷ []) (Ok (vs ++ v ∷ []))
  value_next cs c vs v h k = values_more cs (c ∷ []) vs (v ∷ []) h (k, tt)

  pub fault_more : (cs ds : List Cell) (vs : List A) (r : Refusal) → ReadsAll reads cs (Ok vs)
      → ReadsAll reads ds (Err r) → ReadsAll reads (cs ++ ds) (Err r)
  fault_more [] ds [] r h k = k
  fault_more [] ds (v ∷ vs) r h k = absurd h
  fault_more (c ∷ cs) ds [] r h k = absurd h
  fault_more (c ∷ cs) ds (v ∷ vs) r h k = inr (v, h.0, fault_more cs ds vs r h.1 k)

  pub fault_stays : (cs ds : List Cell) (r : Refusal) → ReadsAll reads cs (Err r) → ReadsAll reads (cs ++ ds) (Err r)
  fault_stays [] ds r h = absurd h
  fault_stays (c ∷ cs) ds r h = elim h [ inl e ↦ inl e | inr p ↦ inr (p.0, p.1, fault_stays cs ds r p.2) ]

-- where a check of what comes next fails, it is Size: bytes trail the last cell, or the next cell is truncated
size_of_two : (t u : Bool) (r : Refusal) → first_fault_of ((t, size) ∷ (u, size) ∷ []) ≡ Some r → r ≡ size
size_of_two true true r e = let no : ⊥ = cc in absurd no
size_of_two true false r e = cc
size_of_two false u r e = cc

size_of_one : (t : Bool) (r : Refusal) → first_fault_of ((t, size) ∷ []) ≡ Some r → r ≡ size
size_of_one true r e = let no : ⊥ = cc in absurd no
size_of_one false r e = cc

no_bytes : (s : List ℕ) (r : Refusal) → first_fault_of (checks_of_next cell_checks 0 s) ≡ Some r → s ≢ []
no_bytes s r e is =
    let none : None ≡ Some r = ap (λ x. first_fault_of (checks_of_next cell_checks 0 x)) (sym is) ∙ e in
    let no : ⊥ = cc in no

stops : (n : ℕ) (s : List ℕ) (r : Refusal) → first_fault_of (checks_of_next cell_checks n s) ≡ Some r → (r ≡ size)
    × (((n ≡ 0) × (s ≢ [])) ⊎ ((0 < n) × SpellsNone s))
stops zero s r e = (size_of_one (length s == 0) r e, inl (refl, no_bytes s r e))
stops (suc n) s r e = (size_of_two (has_number s) (has_cell s) r e, inr (omega arith, no_cell s r e))

-- where nothing is to be read, all the cells that the count says were taken
pub all_taken : (start now : ToRead) (cs : List Cell) → HaveBeenTaken start cs now → now ≡ nothing
    → (length cs ≡ start.left) × CellsInRow start.bytes start.left cs []
all_taken start now cs h end =
    let many : length cs ≡ start.left = omega (arith, h.so_many, ap (λ (r : ToRead). r.left) end) in (
      many,
      (
        subst (λ x. SpellsAll start.bytes cs x) (ap (λ (r : ToRead). r.bytes) end) h.spelled,
        omega
            (arith, many),
        inl many,
      ),
    )

-- where the next step fails, these are all cells that are there, and a check after them fails
pub cells_missing : (n : ℕ) (cs : List Cell) (rest : List ℕ) → length cs < n → first_fault_of (end_checks n cs rest)
    ≡ Some size
cells_missing n cs rest h =
    let fewer : nat_le n (length cs) ≡ false = grind (arith, nat_tests) in
    rw fewer refl

bytes_left : (n : ℕ) (cs : List Cell) (rest : List ℕ) → length cs ≡ n → rest ≢ []
    → first_fault_of (end_checks n cs rest) ≡ Some size
bytes_left n cs [] h left = absurd (left refl)
bytes_left n cs (x ∷ rest) h left =
    let all : nat_le n (length cs) ≡ true = grind (arith, nat_tests) in
    let some : (length (x ∷ rest) == 0) ≡ false = grind (arith, nat_tests) in
    rw (all, some) refl

pub none_left : (n : ℕ) (cs : List Cell) → length cs ≡ n → first_fault_of (end_checks n cs []) ≡ None
none_left n cs h =
    let all : nat_le n (length cs) ≡ true = grind (arith, nat_tests) in
    rw all refl

pub all_there : (start now : ToRead) (cs : List Cell) (r : Refusal) → HaveBeenTaken start cs now
    → first_fault_of (next_checks cell_checks now) ≡ Some r
    → CellsInRow start.bytes start.left cs now.bytes × (first_fault_of (end_checks start.left cs now.bytes) ≡ Some r)
all_there start now cs r h e =
    let p = stops now.left now.bytes r e in (
      (
        h.spelled,
        omega (arith, h.so_many),
        elim p.1 [ inl z ↦ inl (omega (arith, h.so_many, z.0)) | inr z ↦ inr z.1 ],
      ),
      elim p.1 [
        | inl z ↦ bytes_left start.left cs now.bytes (omega (arith, h.so_many, z.0)) z.1
        | inr z ↦ cells_missing start.left cs now.bytes (omega (arith, h.so_many, z.0))
      ] ∙ ap Some (sym p.0),
    )

-- there are more cells after those that were taken, or none
pub remaining_cells : (s u : List ℕ) (cs : List Cell) (n : ℕ) → SpellsAll s cs u → length cs ≤ n → AreBytes u
    → (ds : List Cell) × (rest : List ℕ) × CellsInRow s n (cs ++ ds) rest
remaining_cells s u cs n spelled few bytes =
    let more = cells_exist u (n - length cs) bytes in (
      more.0,
      more.1,
      (
        spelled_more s u more.1 cs more.0 spelled more.2.0,
        omega (arith, few, length-append cs more.0, more.2.1),
        elim more.2.2 [ inl e ↦ inl (omega (arith, few, length-append cs more.0, e)) | inr z ↦ inr z ],
      ),
    )

-- and so there are after those of an array
pub all_remaining : (b : List ℕ) (start now : ToRead) (cs : List Cell) → SpellsHead b start → AreBytes b
    → HaveBeenTaken start cs now
    → (ds : List Cell) × (rest : List ℕ) × CellsInRow start.bytes start.left (cs ++ ds) rest
all_remaining b start now cs p bytes h =
    remaining_cells start.bytes now.bytes cs start.left h.spelled (omega (arith, h.so_many))
    (row_bytes start.bytes now.bytes cs h.spelled (head_bytes b start p bytes))

-- where one list is read, so is another that holds the same
pub same_items : {A X Y : Type 0} (items : X → List A) (others : Y → List A)
    (reads : Content → Cell → Outcome A → Type 0) (element : Option Content) (cell : Cell) (x : X) (y : Y) → others y
    ≡ items x
    → ReadsByElement (λ m. ReadsList items (reads m)) element cell (Ok x)
    → ReadsByElement (λ m. ReadsList others (reads m)) element cell (Ok y)
same_items items others reads None cell x y e h = absurd h
same_items items others reads (Some m) None x y e h = absurd h
same_items items others reads (Some m) (Some b) x y e h =
    record {
      count = h.count;
      cells = h.cells;
      rest = h.rest;
      body = h.body;
      gives = subst (λ vs. ReadsElements (reads m) h.count h.cells h.rest (Ok vs)) (sym e) h.gives;
    }
