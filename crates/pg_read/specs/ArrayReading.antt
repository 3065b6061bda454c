-- Reading a list from the cell of an array.
use Rattle.std.specs.Prelude.{◌≡◌, ◌⊎◌, nat_le, ℕ, List, [], ◌∷◌, ◌++◌, length, take, All, Option, Some, None, Ok}
use Rattle.std.specs.Prelude.{Err}
use Rattle.pg_base.specs.Arrays.{ArrayBody, head_checks}
use Rattle.pg_base.specs.Cells.{Cell}
use Rattle.pg_base.specs.Counts.{no_trailing}
use Rattle.pg_types.specs.Content.{Content}
use Rattle.pg_types.specs.Faults.{Outcome, size, too_few, excess}
use Rattle.pg_base.specs.Formats.{Checks, NotNull, first_fault_of}

-- what cells, or other things that give values, give in order: the values, or the first fault
abbrev pub ReadsAll : {A C : Type 0} → (C → Outcome A → Type 0) → List C → Outcome (List A) → Type 0
ReadsAll reads [] (Ok []) = Unit {0}
ReadsAll reads [] (Ok (v ∷ vs)) = ⊥
ReadsAll reads [] (Err r) = ⊥
ReadsAll reads (c ∷ cs) (Ok []) = ⊥
ReadsAll reads (c ∷ cs) (Ok (v ∷ vs)) = reads c (Ok v) × ReadsAll reads cs (Ok vs)
ReadsAll {A} reads (c ∷ cs) (Err r) = reads c (Err r) ⊎ ((v : A) × reads c (Ok v) × ReadsAll reads cs (Err r))

-- the same with checks after the cells: if no cell is refused, the first check that fails gives its fault
abbrev pub ReadsChecked : {A : Type 0} → (Cell → Outcome A → Type 0) → Checks → List Cell → Outcome (List A) → Type 0
ReadsChecked reads checks cs (Ok vs) = ReadsAll reads cs (Ok vs) × (first_fault_of checks ≡ None)
ReadsChecked {A} reads checks cs (Err r) =
    ReadsAll reads cs (Err r) ⊎ ((vs : List A) × ReadsAll reads cs (Ok vs) × (first_fault_of checks ≡ Some r))

-- the checks after the cells of an array that states n elements: all of them are there, and no bytes trail
abbrev pub end_checks : ℕ → List Cell → List ℕ → Checks
end_checks n cs rest = (nat_le n (length cs), size) ∷ no_trailing rest ∷ []

-- what the elements of a list give
abbrev pub ReadsElements : {A : Type 0} → (Cell → Outcome A → Type 0) → ℕ → List Cell → List ℕ → Outcome (List A)
    → Type 0
ReadsElements reads n cs rest = ReadsChecked reads (end_checks n cs rest) cs

-- the checks after the cells of an array that states n elements, if `expected` are wanted: there are no more, all of
-- them are there, no bytes trail, and n is not less
abbrev pub fixed_checks : ℕ → ℕ → List Cell → List ℕ → Checks
fixed_checks expected n cs rest = (nat_le (length cs) expected, excess expected) ∷ end_checks n cs rest
    ++ (nat_le expected n, too_few expected n) ∷ []

-- what the elements give if this number of values is expected: the elements after them are not read
abbrev pub ReadsFixed : {A : Type 0} → ℕ → (Cell → Outcome A → Type 0) → ℕ → List Cell → List ℕ → Outcome (List A)
    → Type 0
ReadsFixed expected reads n cs rest = ReadsChecked reads (fixed_checks expected n cs rest) (take expected cs)

-- bytes are an array whose elements give this outcome
pub record ElementsGive {A : Type 0} (elements : ℕ → List Cell → List ℕ → Outcome (List A) → Type 0) (b : List ℕ)
    (o : Outcome (List A)) : Type 0 where
  -- the number of elements that the header states
  pub count : ℕ
  -- their cells
  pub cells : List Cell
  -- the bytes after them
  pub rest : List ℕ
  -- these are the parts of the array
  pub body : ArrayBody b count cells rest
  -- this is what the elements give
  pub gives : elements count cells rest o

-- bytes whose header has a fault give it, and all others what their elements give
abbrev pub DecodesArray : {A X : Type 0} → (X → List A) → (ℕ → List Cell → List ℕ → Outcome (List A) → Type 0) → List ℕ
    → Outcome X → Type 0
DecodesArray items elements b (Ok x) = ElementsGive elements b (Ok (items x))
DecodesArray items elements b (Err r) = (first_fault_of (head_checks b) ≡ Some r) ⊎ ElementsGive elements b (Err r)

-- what the cell of an array gives: NULL gives WasNull
abbrev pub ReadsArray : {A X : Type 0} → (X → List A) → (ℕ → List Cell → List ℕ → Outcome (List A) → Type 0) → Cell
    → Outcome X → Type 0
ReadsArray items elements = NotNull (DecodesArray items elements)

-- P holds of each of the first `expected` cells of the array that the bytes are
abbrev pub ElementsAll : ℕ → (Cell → Type 0) → List ℕ → Type 0
ElementsAll expected P b =
    (n : ℕ) (cs : List Cell) (rest : List ℕ) → ArrayBody b n cs rest → All P (take expected cs)

-- what the cell of a list gives
abbrev pub ReadsList : {A X : Type 0} → (X → List A) → (Cell → Outcome A → Type 0) → Cell → Outcome X → Type 0
ReadsList items reads = ReadsArray items (ReadsElements reads)

-- what a cell, or another thing that gives lists, gives for a type of elements
abbrev pub ReadsByElement : {C X : Type 0} → (Content → C → Outcome X → Type 0) → Option Content → C → Outcome X
    → Type 0
ReadsByElement lists None c outcome = ⊥
ReadsByElement lists (Some element) c outcome = lists element c outcome
