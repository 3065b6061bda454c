-- Composite types: what their cells are read as, and the texts of their values (record_send, record_out).
use Rattle.std.specs.Borrow.{Bor}
use Rattle.std.specs.Global.{Global}
use Rattle.std.specs.Int.{cast_unsigned, w32}
use Rattle.std.specs.List.{AllZip, flat_map, join_with_byte}
use Rattle.std.specs.Prelude.{◌≡◌, ◌==◌, ◌||◌, ◌⊎◌, ℕ, Bool, List, [], ◌∷◌, ◌++◌, Option, Some, None, Ok, Err, Vec}
use Rattle.std.specs.Prelude.{length, map, nat_le}
use Rattle.pg_base.specs.Cells.{Cell, Spells}
use Rattle.pg_base.specs.Counts.{after_number, no_trailing, number_in}
use Rattle.pg_base.specs.Formats.{first_fault_of}
use Rattle.pg_copy.specs.CellRefusals.{RefusesAs}
use Rattle.pg_copy.specs.Values.{ReadsShown, ReadsVec, ShowsCell, Values, in_form, values, values_of}
use Rattle.pg_copy.specs.declared.columns.Field.{Field}
use Rattle.pg_text.specs.Lists.{ShowsArray, ShowsElement}
use Rattle.pg_text.specs.Quotes.{field_text}
use Rattle.pg_types.specs.Content.{Content, content, oid_of}
use Rattle.pg_types.specs.Faults.{Outcome, Refusal, field_oid}
use Rattle.pg_types.specs.declared.types.built_in.BuiltIn.TheVariants.{ByteaArray}
use Rattle.postgres_types.specs.ArrayReading.{ReadsAll}
use Rattle.postgres_types.specs.Bytea.{ReadsBytes}
use Rattle.postgres_types.specs.Content.{BuiltInType}
use Rattle.postgres_types.specs.OptionReading.{ReadsOption}
use Rattle.postgres_types.specs.Records.{count_fault, number_checks}

-- whether the OID in a record is accepted for the type of a field: it is that of the type, or one of the two is not
-- assigned by hand (record_recv)
abbrev pub fits_oid : ℕ → ℕ → Bool
fits_oid expected found = found == expected || (nat_le 10000 found || nat_le 10000 expected)

-- the first fault of the OID of a field's type
abbrev pub type_fault : Content → List ℕ → Option Refusal
type_fault ty s =
    first_fault_of (number_checks (λ t. fits_oid (oid_of ty) (cast_unsigned w32 (number_in t))) field_oid s)

-- the values of a field
abbrev pub field_values : Field → Values
field_values field = in_form field.is_array (values_of field.base).0

-- the text of a field: nothing for NULL; otherwise that of a value which the cell is read as, quoted if it has to be
abbrev pub FieldText : Field → Cell → List ℕ → Type 0
FieldText field None text = text ≡ []
FieldText field (Some bytes) text =
    (own : List ℕ) × ShowsCell (field_values field) (content field.ty) bytes own × (text ≡ field_text own)

-- the bytes of a field in the record, and its text
pub record ShowsField (field : Field) (part : List ℕ × List ℕ) : Type 0 where
  -- the OID of its type comes first
  pub oid : type_fault (content field.ty) part.0 ≡ None
  -- then comes the frame of its cell
  pub cell : Cell
  pub spells : Spells (after_number part.0) cell
  -- this is the text
  pub text : FieldText field cell part.1

-- the field at the front of the bytes is refused: the OID of its type, or otherwise its cell
abbrev pub RefusesField : Field → List ℕ → Refusal → Type 0
RefusesField field s refusal =
    (type_fault (content field.ty) s ≡ Some refusal)
    ⊎ ((type_fault (content field.ty) s ≡ None)
    × RefusesAs (field_values field) (content field.ty) (after_number s) refusal)

-- the bytes after the number of fields are refused: a field, after fields that each have a text, or trailing bytes
abbrev pub RefusesFields : List Field → List ℕ → Refusal → Type 0
RefusesFields [] s refusal = first_fault_of (no_trailing s ∷ []) ≡ Some refusal
RefusesFields (field ∷ fields) s refusal =
    RefusesField field s refusal
    ⊎ ((part : List ℕ × List ℕ) × (rest : List ℕ) × ShowsField field part × (s ≡ part.0 ++ rest)
    × RefusesFields fields rest refusal)

-- a record: the number of fields and the bytes of each; its text, which was appended, is the texts of the fields in
-- parentheses, with commas between
pub record ShowsRecord (fields : List Field) (bytes old new : List ℕ) : Type 0 where
  -- the bytes and the text of each field
  pub parts : List (List ℕ × List ℕ)
  pub are : AllZip ShowsField fields parts
  -- the bytes follow the number of fields
  pub count : count_fault (length fields) bytes ≡ None
  pub is : after_number bytes ≡ flat_map (λ part. part.0) parts
  -- the texts follow one another
  pub shown : new ≡ old ++ (40 ∷ (join_with_byte 44 (map (λ part. part.1) parts) ++ 41 ∷ []))

-- a record is refused: the number of fields, or otherwise its fields
abbrev pub RefusesRecord : List Field → List ℕ → Refusal → Type 0
RefusesRecord fields bytes refusal =
    (count_fault (length fields) bytes ≡ Some refusal)
    ⊎ ((count_fault (length fields) bytes ≡ None) × RefusesFields fields (after_number bytes) refusal)

-- the cell of a composite type is read as its bytes
abbrev pub ReadsBytesOf : List Field → Cell → Outcome (Bor (List ℕ)) → Type 0
ReadsBytesOf fields None outcome = ⊥
ReadsBytesOf fields (Some bytes) (Ok v) = v.now ≡ bytes
ReadsBytesOf fields (Some bytes) (Err refusal) = RefusesRecord fields bytes refusal

-- what an element of an array of it gives: its text, or the fault of its record
abbrev pub ReadsElement : List Field → Option (Bor (List ℕ)) → Outcome (List ℕ) → Type 0
ReadsElement fields element (Ok text) = ShowsElement (λ s. ShowsRecord fields s.now) element text
ReadsElement fields None (Err refusal) = ⊥
ReadsElement fields (Some s) (Err refusal) = RefusesRecord fields s.now refusal

-- an array of it is read as one of BYTEA: the bytes of each element
abbrev pub ReadsBytesOfEach : Cell → Outcome (Vec (Option (Bor (List ℕ))) Global) → Type 0
ReadsBytesOfEach = ReadsVec (λ ty. ReadsOption (ReadsBytes (λ s. s.now))) (BuiltInType ByteaArray)

-- an array has a text if each element has one; otherwise the first element that has none gives its fault
abbrev pub ReadsRecords : List Field → Cell → Outcome (Vec (Option (Bor (List ℕ))) Global) → Type 0
ReadsRecords fields cell (Ok records) = ReadsShown ReadsBytesOfEach cell (Ok records)
ReadsRecords fields cell (Err refusal) =
    ReadsShown ReadsBytesOfEach cell (Err refusal)
    ⊎ ((records : Vec (Option (Bor (List ℕ))) Global) × ReadsShown ReadsBytesOfEach cell (Ok records)
    × ReadsAll (ReadsElement fields) records.items (Err refusal))

-- the values of a composite type
abbrev pub record_values : List Field → Values
record_values fields = values {A = Bor (List ℕ)} (λ ty. ReadsBytesOf fields) (λ s. ShowsRecord fields s.now)

-- the values of arrays of a composite type
abbrev pub records_values : List Field → Values
records_values fields =
    values {A = Vec (Option (Bor (List ℕ))) Global} (λ ty. ReadsRecords fields)
    (λ v. ShowsArray (λ s. ShowsRecord fields s.now) v.items)
