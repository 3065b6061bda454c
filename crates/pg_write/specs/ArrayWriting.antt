-- Writing arrays.
use Rattle.std.specs.Prelude.{◌≡◌, ℕ, ℤ, pos, List, [], ◌∷◌, ◌++◌, length, take, Option, Some, None, ◌||◌, ◌==◌}
use Rattle.std.specs.Prelude.{if◌then◌else◌, Result, Ok, Err, IfSome, ⊤}
use Rattle.pg_types.specs.declared.types.built_in.BuiltIn.TheVariants.{Int2Vector, OidVector}
use Rattle.pg_types.specs.declared.fault.Fault.{Fault}
use Rattle.pg_base.specs.Appending.{Wire, wire_of}
use Rattle.pg_base.specs.Arrays.{array_bytes}
use Rattle.pg_base.specs.Cells.{Cell, frame, fits_prefix}
use Rattle.pg_types.specs.Content.{Content, is_row, oid_of}
use Rattle.pg_types.specs.Faults.{Outcome, refusal_of, transmit}
use Rattle.pg_base.specs.ArrayTypes.{element_of}

-- a cell that has a frame, or Transmit if it has none
abbrev pub with_frame : Cell → Option (List ℕ) → Wire
with_frame c None = Err transmit
with_frame c (Some f) = Ok c

-- the cell of an element, which must have a frame
abbrev pub element_frame_cell : Wire → Wire
element_frame_cell (Ok c) = with_frame c (frame c)
element_frame_cell (Err r) = Err r

-- a cell before others, or the first fault
abbrev pub cons_cell : Wire → Outcome (List Cell) → Outcome (List Cell)
cons_cell (Err r) cs = Err r
cons_cell (Ok c) (Err r) = Err r
cons_cell (Ok c) (Ok cs) = Ok (c ∷ cs)

-- the cells of the elements, or the fault of the first that is refused or has no frame
abbrev pub element_cells : {A : Type 0} → (A → Wire) → List A → Outcome (List Cell)
element_cells wire [] = Ok []
element_cells wire (v ∷ vs) = cons_cell (element_frame_cell (wire v)) (element_cells wire vs)

-- the array of the cells
abbrev pub wire_array : ℤ → ℕ → Outcome (List Cell) → Wire
wire_array lower_bound oid (Ok cs) = wire_of (array_bytes lower_bound oid cs)
wire_array lower_bound oid (Err r) = Err r

-- the lower bound of an array, which is the index of its first element: 0 for the two built-in vectors, and otherwise 1
abbrev pub lower_bound_of : Content → ℤ
lower_bound_of ty = if is_row OidVector ty || is_row Int2Vector ty then pos 0 else pos 1

-- what the elements are written as for this type of array and element: a count that does not fit in four bytes is
-- refused before any element
abbrev pub wire_by_element : {A : Type 0} → (Content → A → Wire) → Content → Option Content → List A → Wire
wire_by_element wire ty None vs = Err transmit
wire_by_element wire ty (Some element) vs =
    if fits_prefix (length vs) then wire_array (lower_bound_of ty) (oid_of element)
    (element_cells (wire element) vs) else Err transmit

-- what a list is written as
abbrev pub wire_list : {A : Type 0} → (Content → A → Wire) → Content → List A → Wire
wire_list wire ty vs = wire_by_element wire ty (element_of ty) vs

-- what this number of values is written as; a list of another length is refused
abbrev pub wire_fixed : {A : Type 0} → ℕ → (Content → A → Wire) → Content → List A → Wire
wire_fixed expected wire ty vs = if length vs == expected then wire_list wire ty vs else Err transmit

-- the cell's bytes were appended; or it is refused with this fault, or memory ran out, and what was appended so far
-- follows the old bytes
abbrev pub AppendsArrayOrPart : Wire → List ℕ → List ℕ → Result ⊤ Fault → Type 0
AppendsArrayOrPart w old new (Ok done) = (b : List ℕ) × (w ≡ Ok (Some b)) × (new ≡ old ++ b)
AppendsArrayOrPart w old new (Err f) = (take (length old) new ≡ old) × IfSome (refusal_of f) (λ r. w ≡ Err r)
