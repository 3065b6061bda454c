-- Records, the cells of composite types (record_recv, record_send): the number of the fields in four bytes, and then,
-- for each field, the OID of its type in four bytes and the frame of its cell.
use Rattle.std.specs.Prelude.{◌≡◌, ◌==◌, ◌⊎◌, ◌++◌, Bool, ℕ, suc, pos, List, [], ◌∷◌, length, take, Option, Some, None}
use Rattle.std.specs.Prelude.{Result, Ok, Err, ⊤, IfSome, IfErr, IsOk}
use Rattle.std.specs.Cmp.Lexicographic.{pointwise}
use Rattle.std.specs.Int.{w32, to_be_bytes}
use Rattle.std.specs.Ordering.{int_eq}
use Rattle.pg_types.specs.Content.{KindContent, CompositeKind, FieldsContent, NoFields, FieldAnd}
use Rattle.pg_types.specs.Faults.{Refusal, Outcome, field_count, field_oid, refusal_of, size, transmit}
use Rattle.pg_types.specs.declared.fault.Fault.{Fault}
use Rattle.pg_base.specs.Appending.{Wire}
use Rattle.pg_base.specs.Cells.{Cell, Spells, frame}
use Rattle.pg_base.specs.Counts.{after_number, count_bytes, has_number, no_trailing, number_in, number_width}
use Rattle.pg_base.specs.Formats.{Checks, NotNull, first_fault_of}
use Rattle.pg_read.specs.FrameReading.{BeginsWithCells, ReadsFrame, after_truncated}
use Rattle.pg_write.specs.ParamWriting.{HadNoRoom}

-- ---- the fields of a type

-- the fields of a composite type; another type has none
abbrev pub fields_of_kind : KindContent → FieldsContent
fields_of_kind (CompositeKind fs) = fs
fields_of_kind _ = NoFields

-- the number of fields
abbrev pub count_of : FieldsContent → ℕ
count_of NoFields = 0
count_of (FieldAnd name ty fs) = suc (count_of fs)

-- ---- read

-- the outcome is this fault
abbrev pub IsRefused : {A : Type 0} → Refusal → Outcome A → Type 0
IsRefused r (Ok v) = ⊥
IsRefused r (Err f) = f ≡ r

-- the fault of a check that fails, and otherwise what `gives` gives
abbrev pub Unless : {A : Type 0} → Option Refusal → (Outcome A → Type 0) → Outcome A → Type 0
Unless None gives outcome = gives outcome
Unless (Some r) gives outcome = IsRefused r outcome

-- the checks of a number of four bytes: if fewer are left it is Size, and if it is another number the fault
abbrev pub number_checks : (List ℕ → Bool) → Refusal → List ℕ → Checks
number_checks is fault s = (has_number s, size) ∷ (is s, fault) ∷ []

-- whether the number is this count
abbrev pub is_count : ℕ → List ℕ → Bool
is_count n s = int_eq (number_in s) (pos n)

-- whether its bytes are those of this OID
abbrev pub is_oid : ℕ → List ℕ → Bool
is_oid oid s = pointwise ◌==◌ (take number_width s) (to_be_bytes w32 oid)

-- the first fault of the number of fields, and of the OID of a field's type
abbrev pub count_fault : ℕ → List ℕ → Option Refusal
count_fault n s = first_fault_of (number_checks (is_count n) field_count s)

abbrev pub oid_fault : ℕ → List ℕ → Option Refusal
oid_fault oid s = first_fault_of (number_checks (is_oid oid) field_oid s)

-- two values, or the first fault
abbrev pub Both : {A B : Type 0} → (Outcome A → Type 0) → (Outcome B → Type 0) → Outcome (A × B) → Type 0
Both first second (Ok p) = first (Ok p.0) × second (Ok p.1)
Both {A} first second (Err r) = first (Err r) ⊎ ((v : A) × first (Ok v) × second (Err r))

-- what the first cell gives, and then what the bytes after it give; if no cell is complete it is Size
abbrev pub CellThen : {A B : Type 0} → (Cell → Outcome A → Type 0) → (List ℕ → Outcome B → Type 0) → List Cell → List ℕ
    → Outcome (A × B) → Type 0
CellThen reads others [] rest outcome = IsRefused size outcome
CellThen reads others (c ∷ cs) rest outcome = Both (reads c) (others rest) outcome

-- the same, for the framed cell at the front
abbrev pub FrameThen : {A B : Type 0} → (Cell → Outcome A → Type 0) → (List ℕ → Outcome B → Type 0) → List ℕ
    → Outcome (A × B) → Type 0
FrameThen reads others s outcome = BeginsWithCells (λ cs rest. CellThen reads others cs rest outcome) s 1

-- a field, and then what the bytes after it give: the OID of its type, where another OID is FieldOid, and its framed
-- cell
abbrev pub FieldThen : {A B : Type 0} → ℕ → (Cell → Outcome A → Type 0) → (List ℕ → Outcome B → Type 0) → List ℕ
    → Outcome (A × B) → Type 0
FieldThen oid reads others s = Unless (oid_fault oid s) (FrameThen reads others (after_number s))

-- the outcome is not a fault
abbrev pub IsDone : Outcome (Unit {0}) → Type 0
IsDone (Ok v) = Unit {0}
IsDone (Err r) = ⊥

-- the end of a record: trailing bytes are Size
abbrev pub AtEnd : List ℕ → Outcome (Unit {0}) → Type 0
AtEnd s = Unless (first_fault_of (no_trailing s ∷ [])) IsDone

-- the number of fields, where another number is FieldCount, and then what the fields give
abbrev pub CountThen : {A : Type 0} → ℕ → (List ℕ → Outcome A → Type 0) → List ℕ → Outcome A → Type 0
CountThen n fs s = Unless (count_fault n s) (fs (after_number s))

-- a record of n fields; NULL gives WasNull
abbrev pub ReadsRecord : {A : Type 0} → ℕ → (List ℕ → Outcome A → Type 0) → Cell → Outcome A → Type 0
ReadsRecord n fs = NotNull (CountThen n fs)

-- the cell of a field is read without allocating, and so is what follows it
abbrev pub FieldFree : (Cell → Type 0) → (List ℕ → Type 0) → List ℕ → Type 0
FieldFree free others s =
    (front rest : List ℕ) (c : Cell) → after_number s ≡ front ++ rest → Spells front c → free c × others rest

-- the fields of a record are read without allocating; NULL always is
abbrev pub RecordFree : (List ℕ → Type 0) → Cell → Type 0
RecordFree fs None = Unit {0}
RecordFree fs (Some s) = fs (after_number s)

-- ---- written

-- bytes, or a refusal
abbrev pub Bytes : Type 0
Bytes = Outcome (List ℕ)

-- bytes, and then others, if both exist; otherwise the first refusal
abbrev pub append_bytes : List ℕ → Bytes → Bytes
append_bytes s (Ok b) = Ok (s ++ b)
append_bytes s (Err r) = Err r

abbrev pub concat_bytes : Bytes → Bytes → Bytes
concat_bytes (Ok a) b = append_bytes a b
concat_bytes (Err r) b = Err r

-- bytes, and Transmit if a limit is exceeded
abbrev pub or_transmit : Option (List ℕ) → Bytes
or_transmit (Some b) = Ok b
or_transmit None = Err transmit

-- the frame of a written cell
abbrev pub frame_bytes : Wire → Bytes
frame_bytes (Ok c) = or_transmit (frame c)
frame_bytes (Err r) = Err r

-- a field: the OID of its type and the frame of its cell
abbrev pub field_bytes : ℕ → Wire → Bytes
field_bytes oid w = append_bytes (to_be_bytes w32 oid) (frame_bytes w)

-- these bytes as a cell
abbrev pub bytes_cell : Bytes → Wire
bytes_cell (Ok b) = Ok (Some b)
bytes_cell (Err r) = Err r

-- a record: the number of its fields and the fields
abbrev pub record_bytes : ℕ → Bytes → Bytes
record_bytes n fs = concat_bytes (or_transmit (count_bytes n)) fs

abbrev pub wire_record : ℕ → Bytes → Wire
wire_record n fs = bytes_cell (record_bytes n fs)

-- how many bytes these are; a refusal has none
abbrev pub bytes_len : Bytes → ℕ
bytes_len (Ok b) = length b
bytes_len (Err r) = 0

-- ---- what the calls for composites do

-- where nothing is refused, memory ran out only if there was less room than the bytes
abbrev pub RoomSuffices : Bytes → ℕ → Result ⊤ Fault → Type 0
RoomSuffices w room result = IsOk w → IfErr result (HadNoRoom (bytes_len w) room)

-- the result is this fault
abbrev pub AnswersRefusal : {A : Type 0} → Refusal → Result A Fault → Type 0
AnswersRefusal r (Ok v) = ⊥
AnswersRefusal r (Err f) = refusal_of f ≡ Some r

-- a number of four bytes was taken; if a check of it fails, the result is the fault, and the slice is unchanged if
-- fewer bytes are left, and otherwise begins after them
abbrev pub PassesNumber : Option Refusal → List ℕ → Result ⊤ Fault → List ℕ → Type 0
PassesNumber None old result new = IsOk result × (new ≡ after_number old)
PassesNumber (Some r) old result new = AnswersRefusal r result × (new ≡ after_truncated old)

-- Ok, or the fault of the check that fails
abbrev pub PassesCheck : Option Refusal → Result ⊤ Fault → Type 0
PassesCheck None result = IsOk result
PassesCheck (Some r) result = AnswersRefusal r result

-- the framed cell after a number was read; if a check of the number fails, the result is the fault
abbrev pub ReadsNext : {A : Type 0} → Option Refusal → (Cell → Outcome A → Type 0) → (Cell → Type 0) → List ℕ
    → Result A Fault → List ℕ → Type 0
ReadsNext None reads memory_free old result new = ReadsFrame reads memory_free (after_number old) result new
ReadsNext (Some r) reads memory_free old result new = AnswersRefusal r result × (new ≡ after_truncated old)

-- the bytes were appended; or they are refused with this fault, or memory ran out, and the bytes of the buffer are as
-- they were
abbrev pub AppendsBytes : Bytes → List ℕ → List ℕ → Result ⊤ Fault → Type 0
AppendsBytes w old new (Ok done) = (b : List ℕ) × (w ≡ Ok b) × (new ≡ old ++ b)
AppendsBytes w old new (Err f) = (new ≡ old) × IfSome (refusal_of f) (λ r. w ≡ Err r)

-- the same, but after an error what was appended so far follows the old bytes
abbrev pub AppendsBytesOrPart : Bytes → List ℕ → List ℕ → Result ⊤ Fault → Type 0
AppendsBytesOrPart w old new (Ok done) = AppendsBytes w old new (Ok done)
AppendsBytesOrPart w old new (Err f) = (take (length old) new ≡ old) × IfSome (refusal_of f) (λ r. w ≡ Err r)
