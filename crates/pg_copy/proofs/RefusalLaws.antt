-- Laws of what is refused of a binary COPY.
use Rattle.std.proofs.Common.{◌≡◌, ◌≢◌, ◌+◌, ◌<◌, ℕ, suc, true, false, List, [], ◌∷◌, ◌++◌, length, Option, Some, None}
use Rattle.std.proofs.Common.{take, drop, get_or, inl, inr, refl, sym, ap, subst, ◌∙◌, arith}
use Rattle.std.proofs.Common.{take-append-drop, length-take}
use Rattle.std.proofs.Math.Seq.{drop-cons}
use Rattle.std.specs.Prelude.{IfSome, IsSome}
use Rattle.pg_base.proofs.CellLaws.{cells_single, frames_spell}
use Rattle.pg_base.specs.Cells.{Cell, SpellsAll, SpellsNone}
use Rattle.pg_copy.specs.Values.{Values, values}
use Rattle.pg_types.specs.Content.{Content}
use Rattle.pg_types.specs.Faults.{Refusal, refusal_of}
use Rattle.pg_types.specs.declared.fault.Fault.{Fault}
use Rattle.pg_types.specs.declared.fault.Fault.TheVariants as fault
use Rattle.pg_copy.proofs.LineLaws.{TakesFields, fields_width}
use Rattle.pg_copy.specs.CellRefusals.{CellFault, RefusesAs}
use Rattle.pg_copy.specs.Refusals.{IsValueFault, RefusesAt, RefusesIn, RefusesRow}
use Rattle.pg_copy.specs.Refusals.{TupleRefused, UnlessMemory, ValueRefused, is_write, tuple_fault}
use Rattle.pg_tuples.specs.Refusals.{RefusesTupleOf}
use Rattle.pg_tuples.specs.Tuples.{CountThen, FramesThen}
use Rattle.pg_tuples.specs.declared.tuples.TupleFault.{TupleFault}
use Rattle.pg_copy.specs.declared.columns.Column.{Column}
use Rattle.pg_copy.specs.declared.copy_fault.CopyFault.{CopyFault}
use Rattle.pg_copy.specs.declared.copy_fault.CopyFault.TheVariants.{Memory, Value, Write}
use Rattle.pg_copy.specs.declared.copy_fault.Row.{Row}

-- a fault that is not Memory is a refusal
pub some_refusal : (f : Fault) → (f ≡ fault.Memory → ⊥) → IsSome (refusal_of f)
some_refusal fault.Memory h = absurd (h refl)
some_refusal f h = refl

-- what holds of each fault holds unless memory was refused
pub unless : (Holds : CopyFault → Type 0) (f : CopyFault) → Holds f → UnlessMemory Holds f
unless Holds Memory h = tt
unless Holds f h = h

pub unless_weaker : (P Q : CopyFault → Type 0) (f : CopyFault) → ((e : CopyFault) → P e → Q e) → UnlessMemory P f
    → UnlessMemory Q f
unless_weaker P Q Memory g h = tt
unless_weaker P Q f g h = g f h

pub unless_memory : (Holds : CopyFault → Type 0) (f : CopyFault) → f ≡ Memory → UnlessMemory Holds f
unless_memory Holds f e = subst (UnlessMemory Holds) (sym e) tt

-- what a cell's fault is, whatever the values
pub cell_fault : (own : Values) (ty : Content) (s : List ℕ) (f : Fault) → CellFault own ty s f
    → IfSome (refusal_of f) (RefusesAs own ty s)
cell_fault (values reads shows) ty s f h = h

-- the value of what is there
some_with : (o : Option Refusal) (P : Refusal → Type 0) → IsSome o → IfSome o P → (r : Refusal) × (o ≡ Some r) × P r
some_with None P e h = let no : ⊥ = cc in absurd no
some_with (Some r) P e h = (r, refl, h)

-- the fault of a refused value
pub value_refused_by : (row : Row) (number : ℕ) (column : Column) (f : Fault) (P : Refusal → Type 0) (e : CopyFault)
    → IsValueFault row number column f e → IfSome (refusal_of f) P → UnlessMemory (ValueRefused row number column P) e
value_refused_by row number column f P Memory named h = tt
value_refused_by row number column f P (Value r at base is_array g) named h =
    let some = some_with (refusal_of f) P named.0 h in (
      named.1,
      named.2,
      named.3,
      named.4,
      some.0,
      ap refusal_of named.5 ∙ some.1,
      some.2,
    )
value_refused_by row number column f P e named h = absurd named

-- the column at a place, with those before it and those after it
column_at : (columns : List Column) (place : ℕ) (d : Column) → place < length columns
    → columns ≡ take place columns ++ get_or columns place d ∷ drop (suc place) columns
column_at columns place d within =
    sym (take-append-drop place columns) ∙ ap (λ (l : List Column). take place columns ++ l)
    (drop-cons columns place d within)

-- a cell stands where fewer cells were taken than there are frames
module _ (s rest mid : List ℕ) (n : ℕ) (framed : FramesThen s n rest) (cells : List Cell)
    (spelled : SpellsAll s cells mid)
    (few : length cells < n) where
  pub none_truncated : SpellsNone mid → ⊥
  none_truncated none =
      let all = subst (λ x. SpellsAll x framed.0 rest) (sym framed.4) (frames_spell framed.0 framed.1 rest framed.3) in
      let same = cells_single s n framed.0 cells rest mid (all, omega (arith, framed.2), inl framed.2)
      (spelled, omega (arith, few), inr none) in
      let count = ap length same.0 in
      omega (arith, count, few, framed.2)

whole_front : (column : Column) (s : List ℕ) (r : Refusal) → (SpellsNone s → ⊥) → RefusesAt column s r
    → RefusesIn column s r
whole_front column s r whole h =
    elim h [ inl of_type ↦ inl of_type | inr at ↦ elim at [ inl none ↦ absurd (whole none.0) | inr cell ↦ inr cell ] ]

-- the column's refused cell refuses the row
module _ (row : Row) (columns : List Column) (place : ℕ) (d : Column) (s rest mid lines longer : List ℕ) where
  pub row_refused : (f : CopyFault) → place < length columns → FramesThen s (length columns) rest
      → TakesFields (take place columns) s mid lines longer
      → UnlessMemory (ValueRefused row (place + 1) (get_or columns place d) (RefusesAt (get_or columns place d) mid)) f
      → UnlessMemory (RefusesRow row columns s) f
  row_refused Memory within framed taken h = tt
  row_refused (Value r at base is_array f) within framed (cells, fields, of, is, grown) h =
      let column = get_or columns place d in
      let count = length-take place columns in
      let width = (fields_width (take place columns) cells fields of).0 in
      let whole = none_truncated s rest mid (length columns) framed cells is (omega (arith, count, width, within)) in
      let number : place + 1 ≡ length (take place columns) + 1 = omega (arith, count, within) in
      record {
        done = take place columns;
        column = column;
        later = drop (suc place) columns;
        are = column_at columns place d within;
        cells = cells;
        fields = fields;
        of = of;
        rest = mid;
        is = is;
        refused = (h.0, h.1 ∙ number, h.2, h.3, h.4, h.5, whole_front column mid h.4 whole h.6);
      }
  row_refused f within framed taken h = absurd h

-- a fault of which it is known that writing did not fail
pub no_failed_write : (fault : CopyFault) → false ≡ is_write fault → fault ≢ Write
no_failed_write fault other is = let bad : false ≡ true = other ∙ ap is_write is in let no : ⊥ = cc in no

-- what stands in the place of a tuple is refused
module _ (row : Row) (columns : List Column) (s : List ℕ) where
  pub front_refused : (e : TupleFault) → RefusesTupleOf (length columns) s e
      → (f : CopyFault) → f ≡ tuple_fault row e → UnlessMemory (TupleRefused row columns s) f
  front_refused e h f is = unless (TupleRefused row columns s) f (inl (e, h, is))

  pub tuple_refused : (frames rest : List ℕ) → FramesThen frames (length columns) []
      → CountThen s (length columns) (frames ++ rest)
      → (f : CopyFault) → UnlessMemory (RefusesRow row columns frames) f → UnlessMemory (TupleRefused row columns s) f
  tuple_refused frames rest framed is f h =
      unless_weaker (RefusesRow row columns frames) (TupleRefused row columns s) f
      (λ e refused. inr (frames, rest, framed, is, refused)) h
