-- Steps of rewriting by the type: what the code does by the format is what the table of the types says.
use Rattle.std.specs.Prelude.{◌≡◌, ◌==◌, ◌&&◌, ◌++◌, ℕ, zero, suc, ℤ, pos, negsuc, List, [], ◌∷◌, length, take, drop, Bool, true}
use Rattle.std.specs.Prelude.{false, not, is_some, nat_le, Option, Some, None, Result, Ok, Err, if◌then◌else◌, refl}
use Rattle.std.specs.Int.{w32}
use Rattle.std.proofs.Common.{arith, ap, sym, subst, cond, ◌∙◌, inl, inr, length-take, take-append-drop}
use Rattle.std.proofs.Math.Seq.{take-append_seam}
use Rattle.std.proofs.lemmas.Bool.{and_parts, leb-true}
use Rattle.std.proofs.lemmas.Bool.Decides.{nat_tests}
use Rattle.pg_base.proofs.CellRows.{bytes_before, head_bytes, trailing_bytes}
use Rattle.pg_base.proofs.Completeness.{first_passes}
use Rattle.pg_base.proofs.CompletenessBits.{number_at_front}
use Rattle.pg_base.proofs.FrameLaws.{bytes-frame, cell_after_length}
use Rattle.pg_base.specs.Cells.{AreBytes, Cell, IsBe, Spells}
use Rattle.pg_base.specs.Counts.{after_number, cell_checks, count_or_zero, has_cell, has_number, no_trailing}
use Rattle.pg_base.specs.Counts.{number_in, number_width}
use Rattle.pg_base.specs.Formats.{first_fault_of}
use Rattle.pg_cells_c.proofs.ElementSteps.{step_at}
use Rattle.pg_cells_c.proofs.RewritingSteps.{IsSound, row_sound}
use Rattle.pg_cells_c.specs.ArrayRewriting.{ArrayOutcome, WritesArray, array_at, array_by_row, array_with, flag_if}
use Rattle.pg_cells_c.specs.Elements.{cons_cell, rewritten_cell, rewritten_cells, some_cell, unless}
use Rattle.pg_cells_c.specs.Kinds.{WritesOutcome, kind_at, kind_by_row, kind_of_row, rewritten}
use Rattle.pg_cells_c.specs.Rewriting.{RewrittenArray, RewrittenBy, RewrittenElement, RewrittenElements, RewrittenRow}
use Rattle.pg_cells_c.specs.Rewriting.{RewrittenType, StoresByRow, WritesByRow, WritesRewritten, array_rows, is_vector}
use Rattle.pg_cells_c.specs.Rewriting.{no_type, rewritten_rows, row_among}
use Rattle.pg_cells_c.specs.Writings.{WritesInto}
use Rattle.pg_cells_c.specs.declared.rewrite.arrays.ArrayType.{ArrayType}
use Rattle.pg_cells_c.specs.declared.rewrite.kinds.Kind.{Kind}
use Rattle.pg_types.specs.BuiltInRows.{row_element, row_oid}
use Rattle.pg_types.specs.Faults.{Outcome, Refusal, size}
use Rattle.pg_types.specs.declared.types.built_in.BuiltIn.{BuiltIn as Row}
use Rattle.pg_types.specs.declared.types.built_in.BuiltIn.TheVariants as row

-- ---- rows
-- the format is that of the type which is found by its OID
kind_found : (e : Row) → kind_at (row_oid e) ≡ kind_of_row e
kind_found row.Bool = refl
kind_found e = refl

abbrev or_row : Option Row → Option Row → Option Row
or_row None o = o
or_row (Some r) o = Some r

first_row : (t : Bool) (r : Row) (o p : Option Row) → cond t (Some r) (or_row o p) ≡ or_row (cond t (Some r) o) p
first_row true r o p = refl
first_row false r o p = refl

-- among all, a type is one of the first, or else of the others
row_append : (xs ys : List Row) (oid : ℕ) → row_among (xs ++ ys) oid ≡ or_row (row_among xs oid) (row_among ys oid)
row_append [] ys oid = refl
row_append (x ∷ xs) ys oid =
    ap (cond (oid == row_oid x) (Some x)) (row_append xs ys oid)
    ∙ first_row (oid == row_oid x) x (row_among xs oid) (row_among ys oid)

abbrev all_of : (Row → Bool) → List Row → Bool
all_of p [] = true
all_of p (r ∷ rs) = p r && all_of p rs

found_by : (t : Bool) (x r : Row) (o : Option Row) (P : Row → Type 0) → P x → (o ≡ Some r → P r)
    → cond t (Some x) o ≡ Some r → P r
found_by true x r o P first later e = let same : x ≡ r = cc in subst P same first
found_by false x r o P first later e = later e

-- what holds of each of the types holds of the one that is found
among_all : (p : Row → Bool) (rs : List Row) (oid : ℕ) (r : Row) → all_of p rs ≡ true → row_among rs oid ≡ Some r
    → p r ≡ true
among_all p [] oid r all e = let no : ⊥ = cc in absurd no
among_all p (x ∷ rs) oid r all e =
    let parts = and_parts (p x) (all_of p rs) all in
    found_by (oid == row_oid x) x r (row_among rs oid) (λ y. p y ≡ true) parts.0 (among_all p rs oid r parts.1) e

-- the elements of the type have a format
abbrev element_kind : Option Row → Option Kind
element_kind None = None
element_kind (Some e) = kind_of_row e

abbrev has_kind : Row → Bool
has_kind r = is_some (element_kind (row_element r))

array_has_kind : (oid : ℕ) (r : Row) → row_among array_rows oid ≡ Some r → has_kind r ≡ true
array_has_kind oid r = among_all has_kind array_rows oid r refl

-- ---- types that are no arrays
abbrev IsSoundType : Row → List ℕ → Option Kind → Type 0
IsSoundType r b None = Unit {0}
IsSoundType r b (Some k) = RewrittenType r b (rewritten k b)

type_sound : (r : Row) (b : List ℕ) → IsSound r b (kind_of_row r) → IsSoundType r b (kind_of_row r)
type_sound row.Bool b h = h
type_sound r b h = h

written_by : (R : Outcome (List ℕ) → Type 0) (o : Outcome (List ℕ)) (old new : List ℕ) (result : Result ℕ ℕ) → R o
    → WritesOutcome o old new result → WritesRewritten R old new result
unfolding WritesOutcome
written_by R (Ok c) old new (Ok n) h w = (c, h, w)
written_by R (Ok c) old new (Err n) h w = absurd w
written_by R (Err r) old new (Ok n) h w = absurd w
written_by R (Err r) old new (Err n) h w = (r, h, w.1, w.0)

plain_by : (o : Option Row) (k : Kind) (b old new : List ℕ) (result : Result ℕ ℕ) → AreBytes b → kind_by_row o ≡ Some k
    → WritesOutcome (rewritten k b) old new result → WritesByRow o b old new result
unfolding WritesByRow
plain_by None k b old new result h e w = let no : ⊥ = cc in absurd no
plain_by (Some r) k b old new result h e w =
    written_by (RewrittenType r b) (rewritten k b) old new result
    (subst (IsSoundType r b) e (type_sound r b (row_sound r b h))) w

no_element : (el : Option Row) (v : Bool) → is_some (element_kind el) ≡ true → array_with el v ≡ None → ⊥
no_element None v some e = cc
no_element (Some x) v some e = cc

no_array_by : (oid : ℕ) (o : Option Row) → row_among array_rows oid ≡ o → array_by_row o ≡ None → o ≡ None
no_array_by oid None found e = refl
no_array_by oid (Some r) found e = absurd (no_element (row_element r) (is_vector r) (array_has_kind oid r found) e)

-- where the type is no array it is one of the others
no_array : (oid : ℕ) → array_at oid ≡ None
    → row_among (array_rows ++ rewritten_rows) oid ≡ row_among rewritten_rows oid
no_array oid e =
    row_append array_rows rewritten_rows oid
    ∙ ap (λ o. or_row o (row_among rewritten_rows oid)) (no_array_by oid (row_among array_rows oid) refl e)

pub plain_written : (oid : ℕ) (k : Kind) (b old new : List ℕ) (result : Result ℕ ℕ) → AreBytes b → array_at oid ≡ None
    → kind_at oid ≡ Some k → WritesOutcome (rewritten k b) old new result
    → WritesByRow (row_among (array_rows ++ rewritten_rows) oid) b old new result
plain_written oid k b old new result h none e w =
    subst (λ o. WritesByRow o b old new result) (sym (no_array oid none))
    (plain_by (row_among rewritten_rows oid) k b old new result h e w)

no_kind_by : (o : Option Row) → all_of (λ r. is_some (kind_of_row r)) rewritten_rows ≡ true → kind_by_row o ≡ None
    → ((r : Row) → o ≡ Some r → is_some (kind_of_row r) ≡ true) → o ≡ None
no_kind_by None all e some = refl
no_kind_by (Some r) all e some = let found = some r refl in let no : ⊥ = cc in absurd no

-- and where it is none of them either, there is no such type
pub none_written : (oid : ℕ) (b old new : List ℕ) (n : ℕ) → array_at oid ≡ None → kind_at oid ≡ None → new ≡ old
    → n ≡ no_type → WritesByRow (row_among (array_rows ++ rewritten_rows) oid) b old new (Err n)
unfolding WritesByRow
none_written oid b old new n none e same is =
    let other : row_among rewritten_rows oid ≡ None = no_kind_by (row_among rewritten_rows oid) refl e
    (λ r f. among_all (λ x. is_some (kind_of_row x)) rewritten_rows oid r refl f) in
    subst (λ o. WritesByRow o b old new (Err n)) (sym (no_array oid none ∙ other)) (is, same)

-- ---- elements
-- bytes whose first checks pass begin with a cell
record FirstCell (s : List ℕ) : Type 0 where
  pub front : List ℕ
  pub rest : List ℕ
  pub cell : Cell
  pub is : s ≡ front ++ rest
  pub spells : Spells front cell

first_by : (s h m : List ℕ) (z : ℤ) → s ≡ h ++ m → IsBe w32 h z → nat_le (count_or_zero z) (length m) ≡ true
    → FirstCell s
first_by s h m (negsuc n) is number whole = record {
  front = h;
  rest = m;
  cell = None;
  is = is;
  spells = (n, number);
}
first_by s h m (pos n) is number whole =
    let long = leb-true n (length m) whole in
    let len : length (take n m) ≡ n = simp length-take (omega (arith, long)) in
    let t = cell_after_length s h m (take n m) (drop n m) (pos n) is number (ap pos (sym len))
    (sym (take-append-drop n m)) in
    record { front = t.0; rest = drop n m; cell = Some (take n m); is = t.1; spells = t.2 }

first_cell : (s : List ℕ) → AreBytes s → first_fault_of (cell_checks s) ≡ None → FirstCell s
first_cell s h e =
    let has = first_passes (has_number s) size _ e in
    let whole = first_passes (has_cell s) size None has.1 in
    let number = number_at_front s h has.0 in
    first_by s (take number_width s) (after_number s) (number_in s) number.whole number.number whole.0

-- a front of bytes is bytes
front_bytes : (s t u : List ℕ) → s ≡ t ++ u → AreBytes s → AreBytes t
front_bytes s t u is h =
    subst AreBytes (ap (take (length t)) is ∙ take-append_seam t u) (bytes_before s (length t) h)

-- over a type whose cells have a format
module _ (e : Row) (k : Kind) (is_kind : kind_of_row e ≡ Some k) (nullable : Bool) where
  abbrev Element : Cell → Outcome Cell → Type 0
  Element = RewrittenElement (RewrittenRow e) nullable

  null_sound : (t : Bool) → RewrittenElement (RewrittenRow e) t None (rewritten_cell k t None)
  null_sound true = refl
  null_sound false = (refl, refl)

  some_sound : (b : List ℕ) (o : Outcome (List ℕ)) → RewrittenRow e b o → Element (Some b) (some_cell o)
  some_sound b (Ok c) h = h
  some_sound b (Err r) h = h

  element_sound : (t : List ℕ) (c : Cell) → AreBytes t → Spells t c → Element c (rewritten_cell k nullable c)
  element_sound t None h spells = null_sound nullable
  element_sound t (Some b) h spells =
      let parts = bytes-frame t b spells in
      some_sound b (rewritten k b)
      (subst (IsSound e b) is_kind (row_sound e b (trailing_bytes t parts.0 b parts.1 h)))

  more_sound : (n : ℕ) (s : List ℕ) (f : FirstCell s) (c : Outcome Cell) (o : Outcome (List Cell)) → Element f.cell c
      → RewrittenElements Element n f.rest o → RewrittenElements Element (suc n) s (cons_cell c o)
  more_sound n s f (Ok d) (Ok ds) first rest = (f.front, f.rest, f.cell, f.is, f.spells, first, rest)
  more_sound n s f (Ok d) (Err r) first rest =
      inr (f.front, f.rest, f.cell, f.is, f.spells, inr (d, first, rest))
  more_sound n s f (Err r) o first rest = inr (f.front, f.rest, f.cell, f.is, f.spells, inl first)

  end_sound : (s : List ℕ) → RewrittenElements Element 0 s (rewritten_cells k nullable 0 s)
  end_sound [] = refl
  end_sound (x ∷ s) =
      let some : (length (x ∷ s) == 0) ≡ false = grind (arith, nat_tests) in
      let fault : first_fault_of (no_trailing (x ∷ s) ∷ []) ≡ Some size = rw some refl in
      subst (λ f. RewrittenElements Element 0 (x ∷ s) (unless f (Ok []))) (sym fault) fault

  cells_by : (n : ℕ) (s : List ℕ) (fault : Option Refusal) → AreBytes s → first_fault_of (cell_checks s) ≡ fault
      → ((u : List ℕ) → AreBytes u → RewrittenElements Element n u (rewritten_cells k nullable n u))
      → RewrittenElements Element (suc n) s (rewritten_cells k nullable (suc n) s)
  cells_by n s (Some r) h e later = rw e (inl e)
  cells_by n s None h e later =
      let f = first_cell s h e in
      let is : rewritten_cells k nullable (suc n) s
      ≡ cons_cell (rewritten_cell k nullable f.cell) (rewritten_cells k nullable n f.rest) =
      ap (rewritten_cells k nullable (suc n)) f.is ∙ step_at k nullable n f.front f.rest f.cell f.spells in
      subst (RewrittenElements Element (suc n) s) (sym is)
      (more_sound n s f (rewritten_cell k nullable f.cell) (rewritten_cells k nullable n f.rest)
      (element_sound f.front f.cell (front_bytes s f.front f.rest f.is h) f.spells)
      (later f.rest (trailing_bytes s f.front f.rest f.is h)))

  cells_sound : (n : ℕ) (s : List ℕ) → AreBytes s → RewrittenElements Element n s (rewritten_cells k nullable n s)
  cells_sound zero s h = end_sound s
  cells_sound (suc n) s h = cells_by n s (first_fault_of (cell_checks s)) h refl (λ u g. cells_sound n u g)

lower_bound : (v : Bool) → flag_if (not v) ≡ (if v then pos 0 else pos 1)
lower_bound true = refl
lower_bound false = refl

-- so an array is rewritten to what its type says
array_sound : (e : Row) (k : Kind) (v : Bool) (b : List ℕ) (o : Outcome (List ℕ)) → kind_of_row e ≡ Some k → AreBytes b
    → ArrayOutcome k (record { element = row_oid e; is_vector = v }) b o
    → RewrittenArray (RewrittenElement (RewrittenRow e) (not v)) (flag_if (not v)) (row_oid e) b o
array_sound e k v b (Ok c) kind h p =
    let elements = p.1 in
    let head = elements.head in (
      head,
      p.0,
      elements.spells,
      subst (RewrittenElements (RewrittenElement (RewrittenRow e) (not v)) head.left head.bytes) elements.are
          (cells_sound e k kind (not v) head.left head.bytes (head_bytes b head elements.spells h)),
      p.2,
    )
array_sound e k v b (Err r) kind h p =
    elim p [
      | inl fails ↦ inl fails
      | inr q ↦ inr (
        q.0,
        q.1,
        subst (RewrittenElements (RewrittenElement (RewrittenRow e) (not v)) q.0.left q.0.bytes) q.2
            (cells_sound e k kind (not v) q.0.left q.0.bytes (head_bytes b q.0 q.1 h)),
      )
    ]

abbrev ArrayOf : Row → Bool → ℤ → List ℕ → Outcome (List ℕ) → Type 0
ArrayOf e v bound = RewrittenArray (RewrittenElement (RewrittenRow e) (not v)) bound (row_oid e)

array_outcome : (e : Row) (k : Kind) (v : Bool) (b old new : List ℕ) (result : Result ℕ ℕ) → kind_of_row e ≡ Some k
    → AreBytes b → WritesArray k (record { element = row_oid e; is_vector = v }) b old new result
    → WritesRewritten (ArrayOf e v (if v then pos 0 else pos 1) b) old new result
unfolding WritesArray
array_outcome e k v b old new (Ok n) kind h w =
    (w.0, subst (λ bound. ArrayOf e v bound b (Ok w.0)) (lower_bound v) (array_sound e k v b (Ok w.0) kind h w.1), w.2)
array_outcome e k v b old new (Err n) kind h w = (
  w.0,
  subst (λ bound. ArrayOf e v bound b (Err w.0)) (lower_bound v) (array_sound e k v b (Err w.0) kind h w.1),
  w.2,
  w.3,
)

element_by : (el : Option Row) (r : Row) (a : ArrayType) (k : Kind) (b old new : List ℕ) (result : Result ℕ ℕ)
    → AreBytes b → array_with el (is_vector r) ≡ Some a → kind_at a.element ≡ Some k
    → WritesArray k a b old new result → WritesRewritten (RewrittenBy el r b) old new result
element_by None r a k b old new result h e kind w = let no : ⊥ = cc in absurd no
element_by (Some x) r a k b old new result h e kind w =
    let one : ArrayType = record { element = row_oid x; is_vector = is_vector r } in
    let is : Some one ≡ Some a = e in
    let same : a ≡ one = cc in
    array_outcome x k (is_vector r) b old new result
    (sym (kind_found x) ∙ ap (λ (y : ArrayType). kind_at y.element) (sym same) ∙ kind) h
    (subst (λ (y : ArrayType). WritesArray k y b old new result) same w)

array_by : (o : Option Row) (a : ArrayType) (k : Kind) (others : Option Row) (b old new : List ℕ) (result : Result ℕ ℕ)
    → AreBytes b → array_by_row o ≡ Some a → kind_at a.element ≡ Some k → WritesArray k a b old new result
    → WritesByRow (or_row o others) b old new result
unfolding WritesByRow
array_by None a k others b old new result h e kind w = let no : ⊥ = cc in absurd no
array_by (Some r) a k others b old new result h e kind w =
    element_by (row_element r) r a k b old new result h e kind w

pub array_type_written : (oid : ℕ) (a : ArrayType) (k : Kind) (b old new : List ℕ) (result : Result ℕ ℕ) → AreBytes b
    → array_at oid ≡ Some a → kind_at a.element ≡ Some k → WritesArray k a b old new result
    → WritesByRow (row_among (array_rows ++ rewritten_rows) oid) b old new result
array_type_written oid a k b old new result h e kind w =
    subst (λ o. WritesByRow o b old new result) (sym (row_append array_rows rewritten_rows oid))
    (array_by (row_among array_rows oid) a k (row_among rewritten_rows oid) b old new result h e kind w)

-- ---- what is stored
pub row_stored : (o : Option Row) (b old new : List ℕ) (before written n : ℕ) → WritesByRow o b old new (Ok n)
    → written ≡ n → StoresByRow o b old new before written 0
unfolding StoresByRow WritesByRow
row_stored None b old new before written n w is = absurd w
row_stored (Some r) b old new before written n w is =
    inl (w.0, w.1, refl, subst (WritesInto w.0 old new) (sym is) w.2)

pub row_told : (o : Option Row) (b old new : List ℕ) (before written n : ℕ) → WritesByRow o b old new (Err n)
    → written ≡ before → StoresByRow o b old new before written n
unfolding StoresByRow WritesByRow
row_told None b old new before written n w same = (w.0, w.1, same)
row_told (Some r) b old new before written n w same = inr (w.0, w.1, w.2, w.3, same)
