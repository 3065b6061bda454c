-- Laws of the tuples of lines.
use Rattle.std.proofs.Common.{◌≡◌, ℕ, ◌+◌, ◌<◌, ◌≤◌, suc, pos, List, [], ◌∷◌, ◌++◌, Option, Some, None, Result, Ok, Err}
use Rattle.std.proofs.Common.{OnOk, length, take, get_or, refl, sym, ap, subst, ◌∙◌, append_assoc, append-nil, arith}
use Rattle.std.proofs.Common.{add-one}
use Rattle.std.proofs.Common.{length-append}
use Rattle.std.proofs.Math.Seq.{take-suc}
use Rattle.std.proofs.lemmas.List.Splits.{length-slice_split}
use Rattle.std.specs.Prelude.{◌==◌}
use Rattle.std.specs.List.{AllByRecursion}
use Rattle.pg_base.specs.Cells.{Cell, be, frames}
use Rattle.std.specs.Int.{w16}
use Rattle.pg_base.proofs.Concat.{next_frames}
use Rattle.pg_tuples.proofs.TupleLaws.{counted_below, tuple_counted}
use Rattle.pg_copy.specs.Outputs.{Extends, Gains}
use Rattle.pg_copy.specs.TextLines.{LacksEscapes, Says, fields_left, fields_of}
use Rattle.pg_copy.proofs.TextLaws.{plain_fields}
use Rattle.pg_copy.specs.WrittenRows.{CountFault, FieldCell, FieldCells, FieldFrame, FrameOf, LineFault, TupleOf}
use Rattle.pg_copy.specs.WrittenRows.{ValueFault}
use Rattle.pg_copy.specs.declared.columns.Column.{Column}
use Rattle.pg_copy.specs.declared.copy_fault.CopyFault.{CopyFault}
use Rattle.pg_copy.specs.declared.copy_fault.CopyFault.TheVariants.{Memory, Columns, Value}

pub gains_field : {E : Type 0} (column : Column) (field : List ℕ) (text : Option (List ℕ)) (old new : List ℕ)
    (r : Result (Unit {0}) E) → Says field text → OnOk r (Gains (FrameOf column text) old new)
    → OnOk r (Gains (FieldFrame column field) old new)
gains_field column field text old new (Ok done) says p = (p.0, (p.1.0, (text, says, p.1.1), p.1.2), p.2)
gains_field column field text old new (Err e) says p = tt

-- the frames of the cells of the first n columns were appended, and these fields of the line are left
pub record SoFar (columns : List Column) (line : List ℕ) (n : ℕ) (rest : Option (List ℕ)) (old new : List ℕ) : Type 0
  where
    -- the fields before them
    pub done : List (List ℕ)
    -- their cells
    pub cells : List Cell
    -- the bytes of these cells' frames
    pub bytes : List ℕ
    pub are : fields_of line ≡ done ++ fields_left rest
    pub so_many : length done ≡ n
    pub of : FieldCells (take n columns) done cells
    pub frames_are : frames cells ≡ Some bytes
    pub is : new ≡ old ++ bytes

pub so_far_none : (columns : List Column) (line old : List ℕ) → SoFar columns line 0 (Some line) old old
so_far_none columns line old = record {
  done = [];
  cells = [];
  bytes = [];
  are = refl;
  so_many = refl;
  of = refl;
  frames_are = refl;
  is = sym (append-nil old);
}

-- one field more
field_after : (columns : List Column) (fields : List (List ℕ)) (cells : List Cell) (column : Column) (field : List ℕ)
    (cell : Cell) → FieldCells columns fields cells → FieldCell column field cell
    → FieldCells (columns ++ column ∷ []) (fields ++ field ∷ []) (cells ++ cell ∷ [])
field_after [] [] [] column field cell p q = (q, refl)
field_after [] [] (c ∷ cells) column field cell p q = let bad : ⊥ = cc in absurd bad
field_after [] (f ∷ fields) cells column field cell p q = absurd p
field_after (k ∷ columns) [] cells column field cell p q = absurd p
field_after (k ∷ columns) (f ∷ fields) [] column field cell p q = absurd p
field_after (k ∷ columns) (f ∷ fields) (c ∷ cells) column field cell p q =
    (p.0, field_after columns fields cells column field cell p.1 q)

pub so_far_next : (columns : List Column) (line fields field : List ℕ) (after : Option (List ℕ)) (n : ℕ)
    (d column : Column) (old mid new : List ℕ) → SoFar columns line n (Some fields) old mid → n < length columns
    → column ≡ get_or columns n d → fields_of fields ≡ field ∷ fields_left after
    → Gains (FieldFrame column field) mid new → SoFar columns line (n + 1) after old new
so_far_next columns line fields field after n d column old mid new s within is split g =
    let cell = g.1.0 in
    let more : take (n + 1) columns ≡ take n columns ++ column ∷ [] =
    ap (λ (k : ℕ). take k columns) (add-one n) ∙ take-suc columns n d within
    ∙ ap (λ (c : Column). take n columns ++ c ∷ []) (sym is) in
    record {
      done = s.done ++ field ∷ [];
      cells = s.cells ++ cell ∷ [];
      bytes = s.bytes ++ g.0;
      are =
          s.are ∙ ap (λ (l : List (List ℕ)). s.done ++ l) split
          ∙ sym (append_assoc s.done (field ∷ []) (fields_left after));
      so_many = (let sum = length-append s.done (field ∷ []) in omega (arith, sum, s.so_many));
      of =
          subst (λ (l : List Column). FieldCells l (s.done ++ field ∷ []) (s.cells ++ cell ∷ [])) (sym more)
          (field_after (take n columns) s.done s.cells column field cell s.of g.1.1);
      frames_are = next_frames s.cells cell s.bytes g.0 s.frames_are g.1.2;
      is = g.2 ∙ ap (λ (l : List ℕ). l ++ g.0) s.is ∙ append_assoc old s.bytes g.0;
    }

one_of : (fields : List (List ℕ)) (field : List ℕ) (others : List (List ℕ))
    → AllByRecursion LacksEscapes (fields ++ field ∷ others)
    → LacksEscapes field
one_of [] field others p = p.0
one_of (f ∷ fields) field others p = one_of fields field others p.1

-- the next field has no escape where the line has none
pub plain_field : (columns : List Column) (line fields field : List ℕ) (after : Option (List ℕ)) (n : ℕ)
    (old mid : List ℕ) → SoFar columns line n (Some fields) old mid → fields_of fields ≡ field ∷ fields_left after
    → LacksEscapes line → LacksEscapes field
plain_field columns line fields field after n old mid s split h =
    one_of s.done field (fields_left after)
    (subst (AllByRecursion LacksEscapes) (s.are ∙ ap (λ (l : List (List ℕ)). s.done ++ l) split) (plain_fields line h))

pub so_far_extends : (columns : List Column) (line : List ℕ) (n : ℕ) (rest : Option (List ℕ)) (old new : List ℕ)
    → SoFar columns line n rest old new → Extends old new
so_far_extends columns line n rest old new s = (s.bytes, s.is)

-- there is a cell for each column
as_many : (columns : List Column) (fields : List (List ℕ)) (cells : List Cell) → FieldCells columns fields cells
    → length cells ≡ length columns
as_many [] [] cells of = ap length of
as_many [] (field ∷ fields) cells of = absurd of
as_many (column ∷ columns) [] cells of = absurd of
as_many (column ∷ columns) (field ∷ fields) [] of = absurd of
as_many (column ∷ columns) (field ∷ fields) (cell ∷ cells) of = ap suc (as_many columns fields cells of.1)

-- each column has had its field, and none is left
pub so_far_all : (columns : List Column) (line : List ℕ) (n : ℕ) (old count new : List ℕ)
    → SoFar columns line n None (old ++ count) new → length columns < 32768 → count ≡ be w16 (pos (length columns))
    → take n columns ≡ columns → Gains (TupleOf columns line) old new
so_far_all columns line n old count new s below is all =
    let fields : fields_of line ≡ s.done = s.are ∙ append-nil s.done in
    let cells : FieldCells columns (fields_of line) s.cells =
    subst (λ (l : List (List ℕ)). FieldCells columns l s.cells) (sym fields)
    (subst (λ (l : List Column). FieldCells l s.done s.cells) all s.of) in (
      count ++ s.bytes,
      (
        s.cells,
        cells,
        tuple_counted s.cells (length columns) count s.bytes (as_many columns (fields_of line) s.cells cells)
            (counted_below (length columns) below ∙ ap Some (sym is)) s.frames_are,
      ),
      s.is ∙ append_assoc old count s.bytes,
    )

-- how many fields the line has
pub too_few : (columns : List Column) (line : List ℕ) (n : ℕ) (old new : List ℕ) → SoFar columns line n None old new
    → length (fields_of line) ≡ n
too_few columns line n old new s = ap length (s.are ∙ append-nil s.done) ∙ s.so_many

pub has_more : (columns : List Column) (line fields : List ℕ) (n : ℕ) (old new : List ℕ)
    → SoFar columns line n (Some fields) old new → n + 1 ≤ length (fields_of line)
has_more columns line fields n old new s =
    let all : length (fields_of line) ≡ length (s.done ++ fields_of fields) = ap length s.are in
    let sum = length-append s.done (fields_of fields) in
    let some = length-slice_split (λ byte. byte == 9) fields in
    omega (arith, all, sum, some, s.so_many)

-- the fault of a number of fields, and that of a value
pub count_refused : (columns : List Column) (line : List ℕ) (fault : CopyFault)
    → CountFault (length columns) (length (fields_of line)) fault → (length (fields_of line) ≡ length columns → ⊥)
    → LineFault columns line fault
count_refused columns line (Columns row expected got) p other = (p, other)
count_refused columns line fault p other = absurd p

pub value_refused : (columns : List Column) (line : List ℕ) (column : ℕ) (fault : CopyFault) → ValueFault column fault
    → 0 < column → column ≤ length columns → column ≤ length (fields_of line) → LineFault columns line fault
value_refused columns line column Memory p low high fields = tt
value_refused columns line column (Value row at base is_array fault) p low high fields =
    (omega (arith, p), omega (arith, p), omega (arith, p))
value_refused columns line column fault p low high fields = absurd p
