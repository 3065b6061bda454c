-- Values that are never written as NULL, and the frames of their cells.
use Rattle.std.proofs.Common.{◌≡◌, ℕ, ℤ, Bool, true, false, List, Option, Some, None, Ok, Err, OnOk, refl}
use Rattle.std.proofs.Common.{subst, if◌then◌else◌, IsSome, length}
use Rattle.std.specs.Int.{Width}
use Rattle.postgres_types.specs.Content.{Content, oid_of}
use Rattle.postgres_types.specs.Faults.{Outcome, Refusal, transmit}
use Rattle.postgres_types.specs.Appending.{Wire, wire_of}
use Rattle.postgres_types.specs.ArrayWriting.{element_cells, lower_bound_of, wire_array, wire_by_element}
use Rattle.postgres_types.specs.Cells.{Cell, fits_prefix}
use Rattle.postgres_types.specs.JsonTexts.{wire_document}
use Rattle.postgres_types.specs.Numbers.{wire_bool}
use Rattle.pg_write.specs.Writing.{checked}
use Rattle.postgres_types.specs.ParamWriting.{AppendsFrame}
use Rattle.postgres_types.specs.Records.{Bytes, bytes_cell}
use Rattle.postgres_types.specs.Special.{Special, wire_special}
use Rattle.pg_base.specs.Special.{pos_infinity, neg_infinity, value}
use Rattle.pg_copy.specs.Outputs.{Gains}
use Rattle.pg_copy.specs.Values.{text_values}
use Rattle.pg_copy.specs.WrittenCells.{FrameAs, NeverNull}

pub bytes_or_fault : (c : Bool) (b : List ℕ) (r : Refusal) → NeverNull (if c then Ok (Some b) else Err r)
bytes_or_fault true b r = tt
bytes_or_fault false b r = tt

pub option_never_null : (bytes : Option (List ℕ)) → NeverNull (wire_of bytes)
option_never_null None = tt
option_never_null (Some b) = tt

pub record_never_null : (bytes : Bytes) → NeverNull (bytes_cell bytes)
record_never_null (Ok b) = tt
record_never_null (Err r) = tt

pub bool_never_null : (v : Bool) → NeverNull (wire_bool v)
bool_never_null true = tt
bool_never_null false = tt

pub special_never_null : {A : Type 0} (w : Width) (wire : A → Wire) (v : Special A)
    → ((x : A) → NeverNull (wire x)) → NeverNull (wire_special w wire v)
special_never_null w wire pos_infinity p = tt
special_never_null w wire neg_infinity p = tt
special_never_null w wire (value v) p = p v

array_never_null : (lower_bound : ℤ) (oid : ℕ) (cells : Outcome (List Cell))
    → NeverNull (wire_array lower_bound oid cells)
array_never_null lower_bound oid (Ok cells) = option_never_null _
array_never_null lower_bound oid (Err r) = tt

pub either_never_null : (c : Bool) (w : Wire) (r : Refusal) → NeverNull w → NeverNull (if c then w else Err r)
either_never_null true w r p = p
either_never_null false w r p = tt

pub list_never_null : {A : Type 0} (wire : Content → A → Wire) (ty : Content) (element : Option Content) (vs : List A)
    → NeverNull (wire_by_element wire ty element vs)
list_never_null wire ty None vs = tt
list_never_null wire ty (Some element) vs =
    either_never_null (fits_prefix (length vs))
    (wire_array (lower_bound_of ty) (oid_of element) (element_cells (wire element) vs)) transmit
    (array_never_null (lower_bound_of ty) (oid_of element) (element_cells (wire element) vs))

pub document_never_null : (versioned : Bool) (w : Wire) → NeverNull w → NeverNull (wire_document versioned w)
document_never_null versioned (Ok None) p = absurd p
document_never_null versioned (Ok (Some text)) p = tt
document_never_null versioned (Err r) p = tt

pub ruleset never_null = (
  bytes_or_fault,
  option_never_null,
  record_never_null,
  bool_never_null,
  special_never_null,
  list_never_null,
  document_never_null,
)

some_cell : (cell : Cell) → NeverNull (Ok cell) → IsSome cell
some_cell None p = absurd p
some_cell (Some b) p = refl

-- a value whose type is accepted is written as its cell
accepted_cell : (accepted : Bool) (w : Wire) (r : Refusal) (cell : Cell) → (if accepted then w else Err r) ≡ Ok cell
    → w ≡ Ok cell
accepted_cell true w r cell e = e
accepted_cell false w r cell e = let bad : ⊥ = cc in absurd bad

-- the frame of a value's cell
module _ {A : Type 0} (says : List ℕ → A → Type 0) (accepted : Content → Bool) (name : List ℕ) (wire : Content → A → Wire)
    (ty : Content) (text : List ℕ) (v : A) (said : says text v) (never : NeverNull (wire ty v)) where
  pub value_frame : (old new : List ℕ) (r : _) → AppendsFrame (checked accepted name wire ty v) old new r
      → OnOk r (Gains (FrameAs (text_values says wire) ty (Some text)) old new)
  value_frame old new (Ok done) p =
      let cell_is = accepted_cell (accepted ty) (wire ty v) _ p.cell p.cell_is in
      (p.bytes, (p.cell, (some_cell p.cell (subst NeverNull cell_is never), (v, said, cell_is)), p.frame_is), p.is)
  value_frame old new (Err e) p = tt
