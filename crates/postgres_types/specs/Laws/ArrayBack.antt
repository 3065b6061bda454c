-- Lists are read back as they are written if their elements are.
use Rattle.std.specs.Prelude.{◌≡◌, ◌==◌, ℕ, List, [], ◌∷◌, length, take, Option, Some, None, Ok, Err, Bool, true}
use Rattle.std.specs.Prelude.{nat_le, IsTrue, if◌then◌else◌, refl}
use Rattle.std.proofs.Common.{sym, ◌∙◌, ap, subst, arith, inl, inr, true≢false}
use Rattle.std.proofs.lemmas.Bool.{eqb-true}
use Rattle.std.proofs.lemmas.Bool.Decides.{nat_tests}
use Rattle.std.proofs.lemmas.List.{take_all}
use Rattle.pg_base.specs.Appending.{Wire}
use Rattle.pg_base.proofs.ArrayLaws.{body_single, head_passes}
use Rattle.pg_base.specs.Arrays.{ArrayBody, head_checks}
use Rattle.pg_base.specs.Cells.{Cell, fits_prefix}
use Rattle.pg_types.specs.Content.{Content, oid_of}
use Rattle.pg_types.specs.Faults.{Outcome, Refusal, transmit}
use Rattle.pg_base.specs.Formats.{Checks, first_fault_of}
use Rattle.pg_base.specs.ArrayTypes.{accepted_list, accepted_element, element_of}
use Rattle.pg_base.specs.Sameness.{SameList}
use Rattle.pg_read.specs.ArrayReading.{ReadsAll, ReadsArray, ReadsChecked, ReadsElements, ReadsFixed, ReadsList}
use Rattle.pg_read.specs.ArrayReading.{ElementsGive, ReadsByElement, end_checks, fixed_checks}
use Rattle.pg_read.specs.Laws.Reading.{no_fault}
use Rattle.pg_write.specs.ArrayWriting.{element_cells, element_frame_cell, cons_cell, lower_bound_of, wire_array}
use Rattle.pg_write.specs.ArrayWriting.{wire_fixed, wire_list, wire_by_element}
use Rattle.postgres_types.specs.Laws.Back.{kept}
use Rattle.postgres_types.specs.ReadingBack.{IsLawful, WrittenAsBytes, BackList}
use Rattle.postgres_types.specs.Laws.RelatedList.{flipped, related_give, related_length}
use Rattle.postgres_types.specs.Laws.WrittenArray.{AllWritten, array_body, array_cell, elements_written, tested}

-- ---- the values of a list, one after another

module _ {A : Type 0} (same : A → A → Type 0) (reads : Cell → Outcome A → Type 0) (wire : A → Wire)
    (back : A → Outcome A → Type 0)
    (law : IsLawful same reads wire back) where
  same_cells : (vs ws : List A) → SameList same vs ws → element_cells wire vs ≡ element_cells wire ws
  same_cells [] [] h = refl
  same_cells [] (w ∷ ws) h = absurd h
  same_cells (v ∷ vs) [] h = absurd h
  same_cells (v ∷ vs) (w ∷ ws) h =
      ap (λ u. cons_cell (element_frame_cell u) (element_cells wire vs)) (law.same_wire v w h.0)
      ∙ ap (cons_cell (element_frame_cell (wire w))) (same_cells vs ws h.1)

  all_same_back : (vs ws : List A) (o : Outcome (List A)) → SameList same vs ws → ReadsAll back vs o
      → ReadsAll back ws o
  all_same_back = related_give same back back law.same_back

  all_reads : (vs : List A) (cs : List Cell) (o : Outcome (List A)) → AllWritten wire vs cs → ReadsAll back vs o
      → ReadsAll reads cs o
  all_reads = related_give (λ v c. wire v ≡ Ok c) back reads law.back_reads

  all_back : (vs : List A) (cs : List Cell) (o : Outcome (List A)) → AllWritten wire vs cs → ReadsAll reads cs o
      → ReadsAll back vs o
  all_back vs cs o h = related_give (λ c v. wire v ≡ Ok c) reads back (λ c v. law.reads_back v c) cs vs o
      (flipped (λ v c. wire v ≡ Ok c) vs cs h)

  -- values that were read are written as cells that read as them
  all_kept : (cs : List Cell) (vs : List A) (ds : List Cell) → ReadsAll reads cs (Ok vs) → AllWritten wire vs ds
      → ReadsAll reads ds (Ok vs)
  all_kept [] [] [] h k = tt
  all_kept [] [] (d ∷ ds) h k = absurd k
  all_kept [] (v ∷ vs) ds h k = absurd h
  all_kept (c ∷ cs) [] ds h k = absurd h
  all_kept (c ∷ cs) (v ∷ vs) [] h k = absurd k
  all_kept (c ∷ cs) (v ∷ vs) (d ∷ ds) h k = (kept same reads wire back law c v d h.0 k.0, all_kept cs vs ds h.1 k.1)

-- ---- lists, of all lengths or of those wanted

-- Elements are read as their cells: values come from cells, and if as many cells as are wanted are there, with nothing
-- after them, the outcome of the elements is that of the cells.
pub record ReadsItsCells {A : Type 0} (reads : Cell → Outcome A → Type 0) (wanted : ℕ → Bool)
    (elements : ℕ → List Cell → List ℕ → Outcome (List A) → Type 0) : Type 0 where
  pub from_cells : (n : ℕ) (cs : List Cell) (rest : List ℕ) (vs : List A) → elements n cs rest (Ok vs)
      → (ds : List Cell) × ReadsAll reads ds (Ok vs)
  pub taken : (cs : List Cell) (o : Outcome (List A)) → wanted (length cs) ≡ true → ReadsAll reads cs o
      → elements (length cs) cs [] o
  pub given : (cs : List Cell) (o : Outcome (List A)) → wanted (length cs) ≡ true → elements (length cs) cs [] o
      → ReadsAll reads cs o

-- what is written for lists of the wanted lengths; another list is Transmit
abbrev pub wire_wanted : {A : Type 0} → (ℕ → Bool) → (List A → Wire) → List A → Wire
wire_wanted wanted written vs = if wanted (length vs) then written vs else Err transmit

-- what is known about a cell that a list is written as
record IsListCell {A : Type 0} (wire : A → Wire) (wanted : ℕ → Bool) (vs : List A) (c : Cell) : Type 0 where
  pub bytes : List ℕ
  pub cells : List Cell
  pub is : c ≡ Some bytes
  pub body : ArrayBody bytes (length cells) cells []
  pub written : AllWritten wire vs cells
  pub whole : wanted (length vs) ≡ true

list_cell : {A : Type 0} (wire : Content → A → Wire) (wanted : ℕ → Bool) (ty element : Content) (vs : List A) (c : Cell)
    → wire_wanted wanted (wire_by_element wire ty (Some element)) vs ≡ Ok c → IsListCell (wire element) wanted vs c
list_cell wire wanted ty element vs c e =
    let written = wire_array (lower_bound_of ty) (oid_of element) (element_cells (wire element) vs) in
    let whole = tested (wanted (length vs)) (wire_by_element wire ty (Some element) vs) c e in
    let few = tested (fits_prefix (length vs)) written c whole.1 in
    let a = array_cell (lower_bound_of ty) (oid_of element) (element_cells (wire element) vs) c few.1 in
    record {
      bytes = a.bytes;
      cells = a.cells;
      is = a.is;
      body = array_body (lower_bound_of ty) (oid_of element) a.cells a.bytes a.written;
      written = elements_written (wire element) vs a.cells a.cells_are;
      whole = whole.0;
    }

module _ {A X : Type 0} (items : X → List A) (same : A → A → Type 0) (reads : Cell → Outcome A → Type 0)
    (wires : Content → A → Wire) (back : A → Outcome A → Type 0)
    (ty element : Content) (law : IsLawful same reads (wires element) back)
    (wanted : ℕ → Bool) (elements : ℕ → List Cell → List ℕ → Outcome (List A) → Type 0)
    (its_cells : ReadsItsCells reads wanted elements) where
  abbrev wire : A → Wire
  wire = wires element

  abbrev Written : List A → Wire
  Written = wire_wanted wanted (wire_by_element wires ty (Some element))

  abbrev Reads : Cell → Outcome X → Type 0
  Reads = ReadsArray items elements

  -- what lists of n elements with these cells are written as
  abbrev written_of : ℕ → Outcome (List Cell) → Wire
  written_of n cells =
      if wanted n then (if fits_prefix n then wire_array (lower_bound_of ty)
      (oid_of element) cells else Err transmit) else Err transmit

  list_same_wire : (vs ws : List A) → SameList same vs ws → Written vs ≡ Written ws
  list_same_wire vs ws h =
      ap (λ n. written_of n (element_cells wire vs)) (related_length same vs ws h)
      ∙ ap (written_of (length ws)) (same_cells same reads wire back law vs ws h)

  list_same_back : (x y : X) (o : Outcome X) → SameList same (items x) (items y) → BackList items back x o
      → BackList items back y o
  list_same_back x y (Ok z) h k = all_same_back same reads wire back law (items x) (items y) (Ok (items z)) h k
  list_same_back x y (Err r) h k = all_same_back same reads wire back law (items x) (items y) (Err r) h k

  module _ (vs : List A) (c : Cell) (cell : IsListCell wire wanted vs c) where
    many : wanted (length cell.cells) ≡ true
    many = ap wanted (sym (related_length (λ v c. wire v ≡ Ok c) vs cell.cells cell.written)) ∙ cell.whole

    elements_taken : (o : Outcome (List A)) → ReadsAll reads cell.cells o → elements (length cell.cells) cell.cells [] o
    elements_taken o h = its_cells.taken cell.cells o many h

    -- the outcome is that of its cells, and only that
    elements_give : (o : Outcome (List A)) → ReadsAll reads cell.cells o → ElementsGive elements cell.bytes o
    elements_give o h = record {
      count = length cell.cells;
      cells = cell.cells;
      rest = [];
      body = cell.body;
      gives = elements_taken o h;
    }

    elements_given : (o : Outcome (List A)) → ElementsGive elements cell.bytes o → ReadsAll reads cell.cells o
    elements_given o h =
        let e = body_single cell.bytes h.count (length cell.cells) h.cells cell.cells h.rest [] h.body cell.body in
        its_cells.given cell.cells o many
        (subst (λ x. elements x cell.cells [] o) e.0
        (subst (λ x. elements h.count x [] o) e.1 (subst (λ x. elements h.count h.cells x o) e.2 h.gives)))

    sound_head : (r : Refusal) → first_fault_of (head_checks cell.bytes) ≡ Some r → ⊥
    sound_head r = no_fault (first_fault_of (head_checks cell.bytes)) r
        (head_passes cell.bytes (record { left = length cell.cells; bytes = cell.body.0 }) cell.body.1)

    bytes_read : (x : X) → ReadsAll reads cell.cells (Ok (items x)) → Reads c (Ok x)
    bytes_read x h =
        subst (λ d. Reads d (Ok x)) (sym cell.is)
        (elements_give (Ok (items x)) h)

    bytes_refused : (r : Refusal) → ReadsAll reads cell.cells (Err r) → Reads c (Err r)
    bytes_refused r h =
        subst (λ (d : Cell). let o : Outcome X = Err r in Reads d o) (sym cell.is)
        (inr (elements_give (Err r) h))

    cells_read : (x : X) → Reads (Some cell.bytes) (Ok x) → ReadsAll reads cell.cells (Ok (items x))
    cells_read x h = elements_given (Ok (items x)) h

    cells_refused : (r : Refusal) → Reads (Some cell.bytes) (Err r) → ReadsAll reads cell.cells (Err r)
    cells_refused r h = elim h [ inl z ↦ absurd (sound_head r z) | inr z ↦ elements_given (Err r) z ]

  list_back_reads : (x : X) (c : Cell) (o : Outcome X) → Written (items x) ≡ Ok c → BackList items back x o → Reads c o
  list_back_reads x c (Ok y) e h =
      let cell = list_cell wires wanted ty element (items x) c e in
      bytes_read (items x) c cell y (all_reads same reads wire back law (items x) cell.cells
      (Ok (items y)) cell.written h)
  list_back_reads x c (Err r) e h =
      let cell = list_cell wires wanted ty element (items x) c e in
      bytes_refused (items x) c cell r (all_reads same reads wire back law (items x) cell.cells (Err r) cell.written h)

  list_reads_back : (x : X) (c : Cell) (o : Outcome X) → Written (items x) ≡ Ok c → Reads c o → BackList items back x o
  list_reads_back x c (Ok y) e h =
      let cell = list_cell wires wanted ty element (items x) c e in
      all_back same reads wire back law (items x) cell.cells (Ok (items y)) cell.written
      (cells_read (items x) c cell y (subst (λ d. Reads d (Ok y)) cell.is h))
  list_reads_back x c (Err r) e h =
      let cell = list_cell wires wanted ty element (items x) c e in
      let o : Outcome X = Err r in
      all_back same reads wire back law (items x) cell.cells (Err r) cell.written
      (cells_refused (items x) c cell r (subst (λ d. Reads d o) cell.is h))

  -- a list that was read is written as bytes that read as it
  list_written : (x : X) (cs : List Cell) (w : Wire) → ReadsAll reads cs (Ok (items x)) → Written (items x) ≡ w
      → WrittenAsBytes Reads x w
  list_written x cs (Ok None) h e =
      let cell = list_cell wires wanted ty element (items x) None e in
      let no : None ≡ Some cell.bytes = cell.is in cc
  list_written x cs (Ok (Some b)) h e =
      let cell = list_cell wires wanted ty element (items x) (Some b) e in
      bytes_read (items x) (Some b) cell x (all_kept same reads wire back law cs (items x) cell.cells h cell.written)
  list_written x cs (Err r) h e = tt

  list_from_bytes : (b : List ℕ) (x : X) → Reads (Some b) (Ok x) → WrittenAsBytes Reads x (Written (items x))
  list_from_bytes b x h =
      let read = its_cells.from_cells h.count h.cells h.rest (items x) h.gives in
      list_written x read.0 (Written (items x)) read.1 refl

  -- lists are lawful if their elements are
  pub list_lawful : IsLawful (λ x y. SameList same (items x) (items y)) Reads (λ x. Written (items x))
      (BackList items back)
  list_lawful = record {
    same_wire = λ x y. list_same_wire (items x) (items y);
    same_back = list_same_back;
    from_bytes = list_from_bytes;
    from_null = λ x h. absurd h;
    back_reads = list_back_reads;
    reads_back = list_reads_back;
  }

-- ---- the elements of lists of every length, and of one length

no_more : (n : ℕ) → nat_le n n ≡ true
no_more n = grind (arith, nat_tests)

all_there : (cs : List Cell) → first_fault_of (end_checks (length cs) cs []) ≡ None
all_there cs = rw (no_more (length cs)) refl

module _ {A : Type 0} (reads : Cell → Outcome A → Type 0) where
  checked_cells : (checks : Checks) (cs : List Cell) (o : Outcome (List A)) → first_fault_of checks ≡ None
      → ReadsAll reads cs o → ReadsChecked reads checks cs o
  checked_cells checks cs (Ok vs) e h = (h, e)
  checked_cells checks cs (Err r) e h = inl h

  cells_checked : (checks : Checks) (cs : List Cell) (o : Outcome (List A)) → first_fault_of checks ≡ None
      → ReadsChecked reads checks cs o → ReadsAll reads cs o
  cells_checked checks cs (Ok vs) e h = h.0
  cells_checked checks cs (Err r) e h = elim h [ inl z ↦ z | inr z ↦ absurd (no_fault (first_fault_of checks) r e z.2) ]

  -- a list of any length
  pub all_lengths : ReadsItsCells reads (λ n. true) (ReadsElements reads)
  all_lengths = record {
    from_cells = λ n cs rest vs h. (cs, h.0);
    taken = λ cs o w h. checked_cells (end_checks (length cs) cs []) cs o (all_there cs) h;
    given = λ cs o w h. cells_checked (end_checks (length cs) cs []) cs o (all_there cs) h;
  }

  module _ (expected : ℕ) where
    first_ones : (cs : List Cell) → (length cs == expected) ≡ true → take expected cs ≡ cs
    first_ones cs w = take_all expected cs (omega (arith, eqb-true (length cs) expected w))

    abbrev checks : List Cell → Checks
    checks cs = fixed_checks expected (length cs) cs []

    all_wanted : (cs : List Cell) → (length cs == expected) ≡ true → first_fault_of (checks cs) ≡ None
    all_wanted cs w =
        let is : expected ≡ length cs = sym (eqb-true (length cs) expected w) in
        rw (is, no_more (length cs)) refl

    -- a list of `expected` values
    pub one_length : ReadsItsCells reads (λ n. n == expected) (ReadsFixed expected reads)
    one_length = record {
      from_cells = λ n cs rest vs h. (take expected cs, h.0);
      taken = λ cs o w h. checked_cells (checks cs) (take expected cs) o (all_wanted cs w)
          (subst (λ ds. ReadsAll reads ds o) (sym (first_ones cs w)) h);
      given = λ cs o w h. subst (λ ds. ReadsAll reads ds o) (first_ones cs w)
          (cells_checked (checks cs) (take expected cs) o (all_wanted cs w) h);
    }

-- ---- arrays of the types that the elements accept

same_by_element : (reading writing : Content → Bool) → ((ty : Content) → reading ty ≡ writing ty)
    → (element : Option Content) → accepted_element reading element ≡ accepted_element writing element
same_by_element reading writing same None = refl
same_by_element reading writing same (Some element) = same element

-- lists accept the same arrays in both directions if their elements accept the same types
pub same_lists : (reading writing : Content → Bool) → ((ty : Content) → reading ty ≡ writing ty) → (ty : Content)
    → accepted_list reading ty ≡ accepted_list writing ty
same_lists reading writing same ty = same_by_element reading writing same (element_of ty)

module _ {A X : Type 0} (items : X → List A) (same : A → A → Type 0) (accepted : Content → Bool)
    (reads : Content → Cell → Outcome A → Type 0) (wire : Content → A → Wire) (back : Content → A → Outcome A → Type 0)
    (law : (ty : Content) → IsTrue (accepted ty) → IsLawful same (reads ty) (wire ty) (back ty)) where
  abbrev Same : X → X → Type 0
  Same x y = SameList same (items x) (items y)

  abbrev Back : Option Content → X → Outcome X → Type 0
  Back = ReadsByElement (λ element. BackList items (back element))

  module _ (wanted : ℕ → Bool) (elements : (Cell → Outcome A → Type 0) → ℕ → List Cell → List ℕ → Outcome (List A)
      → Type 0)
      (its_cells : (r : Cell → Outcome A → Type 0) → ReadsItsCells r wanted (elements r)) where
    abbrev ByElementReads : Option Content → Cell → Outcome X → Type 0
    ByElementReads = ReadsByElement (λ element. ReadsArray items (elements (reads element)))

    by_element_lawful : (ty : Content) (element : Option Content) → IsTrue (accepted_element accepted element)
        → IsLawful Same (ByElementReads element) (λ x. wire_wanted wanted (wire_by_element wire ty element) (items x))
        (Back element)
    by_element_lawful ty None h = absurd (true≢false (sym h))
    by_element_lawful ty (Some element) h =
        list_lawful items same (reads element) wire (back element) ty element (law element h) wanted
        (elements (reads element)) (its_cells (reads element))

  -- lists are lawful for the arrays of the types that lawful elements accept
  pub array_lawful : (ty : Content) → IsTrue (accepted_list accepted ty)
      → IsLawful Same (ReadsByElement (λ element. ReadsList items (reads element)) (element_of ty))
      (λ x. wire_list wire ty (items x)) (Back (element_of ty))
  array_lawful ty h = by_element_lawful (λ n. true) ReadsElements all_lengths ty (element_of ty) h

  -- and so are those of `expected` elements
  pub fixed_lawful : (expected : ℕ) (ty : Content) → IsTrue (accepted_list accepted ty)
      → IsLawful Same (ReadsByElement (λ element. ReadsArray items (ReadsFixed expected (reads element)))
      (element_of ty)) (λ x. wire_fixed expected wire ty (items x)) (Back (element_of ty))
  fixed_lawful expected ty h = by_element_lawful (λ n. n == expected) (ReadsFixed expected)
      (λ r. one_length r expected) ty (element_of ty) h
