-- Reading the elements of an array one after another: the steps of the reader.
use Rattle.std.specs.Prelude.{◌≡◌, ◌⊎◌, ℕ, List, Option, Some, None, Result, Ok, Err}
use Rattle.std.specs.Borrow.{Bor}
use Rattle.pg_base.specs.Arrays.{TakesElement}
use Rattle.pg_base.specs.Cells.{Cell, cell_of}
use Rattle.pg_base.specs.Counts.{ToRead, cell_checks, next_checks, nothing}
use Rattle.pg_base.specs.Formats.{first_fault_of}
use Rattle.pg_types.specs.Content.{Content, content}
use Rattle.pg_types.specs.Faults.{Refusal, Outcome, excess, refusal_of}
use Rattle.pg_types.specs.declared.fault.Fault.{Fault}
use Rattle.pg_read.specs.declared.arrays.fixed_size.ElementReader.{ElementReader}

-- the next cell was taken, and P holds of it
abbrev pub TakesCellWith : (Cell → Type 0) → ToRead → ToRead → Type 0
TakesCellWith P old new =
    (raw : Option (Bor (List ℕ))) × TakesElement old (Some (Ok raw)) new × P (cell_of raw)

-- there is a next cell, and P holds of it
abbrev pub HasCellWith : (Cell → Type 0) → ToRead → Type 0
HasCellWith P old = (new : ToRead) × TakesCellWith P old new

-- t is r, except for its cells
pub record IsAlike {A : Type 0} (r t : ElementReader A) : Type 0 where
  pub element : t.element ≡ r.element
  pub expected : t.expected ≡ r.expected
  pub fault : t.fault ≡ r.fault

-- the next cell was read as the element
abbrev pub GivesElement : {A : Type 0} → (Content → Cell → Outcome A → Type 0) → ElementReader A → A → ElementReader A
    → Type 0
GivesElement reads r v t =
    TakesCellWith (λ c. reads (content r.element.now) c (Ok v)) r.cells t.cells × IsAlike r t

-- the first check that fails of what comes next has this fault
abbrev pub IsDamaged : ToRead → Refusal → Type 0
IsDamaged cells q = first_fault_of (next_checks cell_checks cells) ≡ Some q

-- the next cell is damaged, or refused with this; or memory ran out, and reading the cell allocates
abbrev pub Fails : {A : Type 0} → (Content → Cell → Outcome A → Type 0) → (Cell → Type 0) → ElementReader A
    → Option Refusal → Type 0
Fails reads free r None = HasCellWith (λ c. free c → ⊥) r.cells
Fails reads free r (Some q) =
    IsDamaged r.cells q ⊎ HasCellWith (λ c. reads (content r.element.now) c (Err q)) r.cells

-- no element was read: there is no further cell and the fault is unchanged, or the fault is that of the next cell
abbrev pub Stops : {A : Type 0} → (Content → Cell → Outcome A → Type 0) → (Cell → Type 0) → ElementReader A
    → ElementReader A → Type 0
Stops reads free r t = ((r.cells ≡ nothing) × (t.fault ≡ r.fault)) ⊎ Fails reads free r (refusal_of t.fault)

-- what comes next is damaged, or is a cell too many; and memory never runs out
abbrev pub RestFails : {A : Type 0} → ElementReader A → Option Refusal → Type 0
RestFails r None = ⊥
RestFails r (Some q) = IsDamaged r.cells q ⊎ HasCellWith (λ c. q ≡ excess r.expected) r.cells

-- nothing is left, or this is the fault
abbrev pub Finishes : {A : Type 0} → ElementReader A → Result (Unit {0}) Fault → Type 0
Finishes r (Ok u) = r.cells ≡ nothing
Finishes r (Err f) = RestFails r (refusal_of f)
