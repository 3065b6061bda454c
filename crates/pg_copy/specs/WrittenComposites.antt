-- What the text of a composite value is written as.
use Rattle.std.specs.Prelude.{◌≡◌, ℕ, List, [], ◌∷◌, ◌++◌, length, map, pos, Option, option_map}
use Rattle.std.specs.Prelude.{String, Vec, string_bytes}
use Rattle.std.specs.Global.{Global}
use Rattle.std.specs.Int.{w32, to_be_bytes}
use Rattle.std.specs.List.{AllZip, flat_map, join_with_byte}
use Rattle.pg_base.specs.Cells.{be}
use Rattle.pg_text.specs.Items.{SaysItem}
use Rattle.pg_text.specs.Lists.{SaysValue}
use Rattle.pg_text.specs.declared.items.Items.TheVariants.{OfRecord}
use Rattle.pg_types.specs.declared.types.built_in.BuiltIn.TheVariants.{ByteaArray}
use Rattle.postgres_types.specs.Bytea.{wire_bytes}
use Rattle.postgres_types.specs.Content.{BuiltInType, Content, content, oid_of}
use Rattle.pg_copy.specs.Values.{TextValues, in_form, text_arrays_of, text_values, values_of}
use Rattle.pg_copy.specs.WrittenCells.{FrameAs}
use Rattle.pg_copy.specs.declared.columns.Field.{Field}

-- a field of a record (record_recv): the OID of its type in four bytes, and the frame of the cell for its text
abbrev pub FieldOf : Field → Option (List ℕ) → List ℕ → Type 0
FieldOf field text bytes =
    (framed : List ℕ)
    × FrameAs (in_form field.is_array (values_of field.base).1) (content field.ty) text framed
    × (bytes ≡ to_be_bytes w32 (oid_of (content field.ty)) ++ framed)

-- the text of a field, and the field that it stands for
abbrev pub WritesItem : Field → List ℕ × List ℕ → Type 0
WritesItem field (item, bytes) = (text : Option (List ℕ)) × SaysItem OfRecord item text × FieldOf field text bytes

-- the record of a text: the texts of its fields, in parentheses with commas between (record_in), give the number of the
-- fields in four bytes, and the fields (record_recv)
abbrev pub RecordOf : List Field → List ℕ → List ℕ → Type 0
RecordOf fields text bytes =
    (items : List (List ℕ × List ℕ)) × AllZip WritesItem fields items
    × (text ≡ 40 ∷ (join_with_byte 44 (map (λ item. item.0) items) ++ 41 ∷ []))
    × (bytes ≡ be w32 (pos (length fields)) ++ flat_map (λ item. item.1) items)

-- the bytes of a record in memory, or NULL
abbrev pub record_of : Option (Vec ℕ Global) → Option (List ℕ)
record_of own = option_map (λ v. v.items) own

-- these are the record of a text, or both are NULL
abbrev pub SaysRecord : List Field → Option (String Global) → Option (Vec ℕ Global) → Type 0
SaysRecord fields text own = SaysValue (RecordOf fields) (option_map (λ t. string_bytes t) text) (record_of own)

-- the texts of a composite type with these fields
abbrev pub record_texts : List Field → TextValues
record_texts fields = text_values (RecordOf fields) (λ ty bytes. wire_bytes bytes)

-- values that are written as those of this type, whatever the type of the column
abbrev pub of_type : Content → TextValues → TextValues
of_type ty (text_values says wire) = text_values says (λ _. wire ty)

-- the values, and arrays of them, which are written as arrays of BYTEA
abbrev pub composite_texts : List Field → TextValues × TextValues
composite_texts fields = (record_texts fields, of_type (BuiltInType ByteaArray) (text_arrays_of (record_texts fields)))
