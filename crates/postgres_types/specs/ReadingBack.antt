-- Reading back: how the reading and the writing of a type agree.
use Rattle.std.specs.Prelude.{◌≡◌, ◌++◌, ℕ, List, Option, Some, None, Result, Ok, Err}
use Rattle.std.specs.Int.{Width}
use Rattle.pg_types.specs.declared.fault.Fault.{Fault}
use Rattle.pg_types.specs.declared.format.IsNull.{IsNull}
use Rattle.pg_types.specs.declared.format.IsNull.TheVariants.{Yes, No}
use Rattle.pg_base.specs.Appending.{Wire}
use Rattle.pg_base.specs.Cells.{Cell}
use Rattle.pg_types.specs.Faults.{Outcome}
use Rattle.pg_base.specs.Formats.{IsWasNull}
use Rattle.pg_base.specs.Special.{IsFiniteCell, ReadsSpecial, Special, pos_infinity, neg_infinity, value}
use Rattle.pg_read.specs.ArrayReading.{ReadsAll}
use Rattle.pg_read.specs.OptionReading.{IsNoneOutcome}
use Rattle.pg_read.specs.Views.{Through}

-- ---- laws

-- the value is written as a cell that reads as it, or refused
abbrev pub WrittenAsCell : {A : Type 0} → (Cell → Outcome A → Type 0) → A → Wire → Type 0
WrittenAsCell reads v (Ok c) = reads c (Ok v)
WrittenAsCell reads v (Err r) = Unit {0}

-- the value is written as bytes that read as it, or refused
abbrev pub WrittenAsBytes : {A : Type 0} → (Cell → Outcome A → Type 0) → A → Wire → Type 0
WrittenAsBytes reads v (Ok None) = ⊥
WrittenAsBytes reads v (Ok (Some b)) = reads (Some b) (Ok v)
WrittenAsBytes reads v (Err r) = Unit {0}

-- Reading, writing and what a written value is read back as agree: values with the same content are written and read
-- back the same; a value that bytes give is written as bytes that read as it, and a value that NULL gives as a cell
-- that reads as it, unless either is refused; and the cell that a value is written as reads as what the value is read
-- back as.
pub record IsLawful {A : Type 0} (same : A → A → Type 0) (reads : Cell → Outcome A → Type 0) (wire : A → Wire)
    (back : A → Outcome A → Type 0) : Type 0 where
  pub same_wire : (v w : A) → same v w → wire v ≡ wire w
  pub same_back : (v w : A) (o : Outcome A) → same v w → back v o → back w o
  pub from_bytes : (b : List ℕ) (v : A) → reads (Some b) (Ok v) → WrittenAsBytes reads v (wire v)
  pub from_null : (v : A) → reads None (Ok v) → WrittenAsCell reads v (wire v)
  pub back_reads : (v : A) (c : Cell) (o : Outcome A) → wire v ≡ Ok c → back v o → reads c o
  pub reads_back : (v : A) (c : Cell) (o : Outcome A) → wire v ≡ Ok c → reads c o → back v o

-- a value is written as finite bytes of that width, or refused
abbrev pub WrittenFinite : Width → Wire → Type 0
WrittenFinite w (Ok None) = ⊥
WrittenFinite w (Ok (Some b)) = IsFiniteCell w b
WrittenFinite w (Err r) = Unit {0}

-- a value that finite bytes of that width give is written as such bytes, or refused
abbrev pub KeepsFinite : {A : Type 0} → Width → (Cell → Outcome A → Type 0) → (A → Wire) → Type 0
KeepsFinite {A} w reads wire = (b : List ℕ) (v : A) → IsFiniteCell w b → reads (Some b) (Ok v)
    → WrittenFinite w (wire v)

-- ---- what a written value is read back as, by the shape of the value

-- a plain value: one that has what is kept of the written value, which is all of it, except for timestamps, which are
-- truncated
abbrev pub BackKept : {A : Type 0} → (A → A → Type 0) → A → Outcome A → Type 0
BackKept kept v (Ok w) = kept v w
BackKept kept v (Err r) = ⊥

-- P if the value is written as NULL, and otherwise Q
abbrev pub IfNull : Wire → Type 0 → Type 0 → Type 0
IfNull (Ok None) P Q = P
IfNull (Ok (Some b)) P Q = Q
IfNull (Err r) P Q = Q

-- Some of what the value inside is read back as, or its fault
abbrev pub InSome : {A : Type 0} → (Outcome A → Type 0) → Outcome (Option A) → Type 0
InSome back (Ok None) = ⊥
InSome back (Ok (Some v)) = back (Ok v)
InSome back (Err r) = back (Err r)

-- None as None; Some as None if the value inside is written as NULL, and otherwise as Some of what that value is read
-- back as
abbrev pub BackOption : {A : Type 0} → (A → Wire) → (A → Outcome A → Type 0) → Option A → Outcome (Option A) → Type 0
BackOption wire back None outcome = IsNoneOutcome outcome
BackOption wire back (Some v) outcome = IfNull (wire v) (IsNoneOutcome outcome) (InSome (back v) outcome)

-- WasNull if the value is written as NULL, and otherwise what it is read back as
abbrev pub BackNotNull : {A : Type 0} → (A → Wire) → (A → Outcome A → Type 0) → A → Outcome A → Type 0
BackNotNull wire back v outcome = IfNull (wire v) (IsWasNull outcome) (back v outcome)

-- a box of what the value inside is read back as
abbrev pub BackBox : {A B : Type 0} → (B → A) → (A → Wire) → (A → Outcome A → Type 0) → B → Outcome B → Type 0
BackBox inside wire back v = Through inside (BackNotNull wire back (inside v))

-- an infinity
abbrev pub IsInfinityOutcome : {A B : Type 0} → (B → Special A) → Special A → Outcome B → Type 0
IsInfinityOutcome view infinity (Ok v) = view v ≡ infinity
IsInfinityOutcome view infinity (Err r) = ⊥

-- a value of which P holds, and no infinity
abbrev pub OfValue : {A : Type 0} → (A → Type 0) → Special A → Type 0
OfValue P pos_infinity = ⊥
OfValue P neg_infinity = ⊥
OfValue P (value v) = P v

-- Value of what the value inside is read back as, or its fault
abbrev pub InValue : {A B : Type 0} → (B → Special A) → (Outcome A → Type 0) → Outcome B → Type 0
InValue view back (Ok s) = OfValue (λ v. back (Ok v)) (view s)
InValue view back (Err r) = back (Err r)

-- what a value is read back as: its cell is read, and the value inside is what that one is read back as. So the outcome
-- is WasNull if the cell is NULL, Size if it has another width, the infinity if it is the cell of one, and otherwise
-- Value of what the value inside is read back as, or its fault
abbrev pub BackValue : {A B : Type 0} → Width → (B → Special A) → Wire → (Outcome A → Type 0) → Outcome B → Type 0
BackValue w view (Ok c) back outcome = ReadsSpecial w view (λ _. back) c outcome
BackValue w view (Err r) back outcome = InValue view back outcome

-- an infinity as itself, and a value as its cell is read back
abbrev pub BackSpecial : {A B : Type 0} → Width → (B → Special A) → (A → Wire) → (A → Outcome A → Type 0) → Special A
    → Outcome B → Type 0
BackSpecial w view wire back pos_infinity outcome = IsInfinityOutcome view pos_infinity outcome
BackSpecial w view wire back neg_infinity outcome = IsInfinityOutcome view neg_infinity outcome
BackSpecial w view wire back (value v) outcome = BackValue w view (wire v) (back v) outcome

-- the list of what its elements are read back as, or the first fault among them
abbrev pub BackList : {A X : Type 0} → (X → List A) → (A → Outcome A → Type 0) → X → Outcome X → Type 0
BackList items back x (Ok y) = ReadsAll back (items x) (Ok (items y))
BackList items back x (Err r) = ReadsAll back (items x) (Err r)

-- ---- rewriting

-- P holds of the cell that was written
abbrev pub WritesCell : (Cell → Type 0) → List ℕ → List ℕ → Result IsNull Fault → Type 0
WritesCell P old new (Ok No) = (b : List ℕ) × (new ≡ old ++ b) × P (Some b)
WritesCell P old new (Ok Yes) = (new ≡ old) × P None
WritesCell P old new (Err f) = Unit {0}
