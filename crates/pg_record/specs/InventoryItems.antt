-- Inventory items: records of a text, an INT4, and an INT8 that may be NULL.
use Rattle.std.specs.Prelude.{◌≡◌, ℕ, ℤ, List, [], ◌∷◌, Option, Ok, Bool, String, codes, string_bytes}
use Rattle.std.proofs.Common.{Global}
use Rattle.std.specs.Int.{w32, w64}
use Rattle.pg_types.specs.Content.{Content, FieldsContent, is_row}
use Rattle.pg_types.specs.Faults.{Outcome}
use Rattle.pg_types.specs.declared.types.built_in.BuiltIn.TheVariants.{Int4, Int8}
use Rattle.pg_base.specs.Appending.{Wire}
use Rattle.pg_base.specs.Cells.{Cell}
use Rattle.pg_base.specs.Numbers.{ReadsSigned, wire_signed}
use Rattle.pg_base.specs.Sameness.{SameOption}
use Rattle.pg_base.specs.Texts.{ReadsText, accepted_text, has_version, wire_text}
use Rattle.pg_read.specs.OptionReading.{ReadsOption}
use Rattle.pg_read.specs.Views.{ReadsThrough, Through}
use Rattle.pg_write.specs.OptionWriting.{wire_option}
use Rattle.postgres_types.specs.CompositeFields.{BackAnd, BackEnd, ReadsAnd, ReadsEnd, SameAnd, accepts_and, and}
use Rattle.postgres_types.specs.CompositeFields.{bytes_and, end, no_fields}
use Rattle.postgres_types.specs.Composites.{accepts_record}
use Rattle.postgres_types.specs.ReadingBack.{BackKept, BackOption}
use Rattle.postgres_types.specs.Records.{Bytes, ReadsRecord, count_of, record_bytes, wire_record}
use Rattle.postgres_types.specs.declared.composite.fields.And.{And}
use Rattle.postgres_types.specs.declared.composite.fields.End.{End}
use Rattle.pg_record.specs.declared.inventory_item.InventoryItem.{InventoryItem}

-- ---- the fields

-- a text
abbrev pub Text : Type 0
Text = String Global

abbrev pub SameText : Text → Text → Type 0
SameText v w = string_bytes v ≡ string_bytes w

abbrev pub reads_text : Content → Cell → Outcome Text → Type 0
reads_text ty = ReadsText string_bytes (has_version ty)

abbrev pub text_cell : Content → Text → Wire
text_cell ty v = wire_text (has_version ty) (string_bytes v)

-- equal numbers
abbrev pub Equal : ℤ → ℤ → Type 0
Equal v w = v ≡ w

-- the fields of an item, one after another
abbrev pub Row : Type 0
Row = And Text (And ℤ (And (Option ℤ) End))

abbrev pub row_of : InventoryItem → Row
row_of v = and v.name (and v.supplier_id (and v.price end))

abbrev pub SameRow : Row → Row → Type 0
SameRow = SameAnd SameText (SameAnd Equal (SameAnd (SameOption Equal) (λ v w. Unit {0})))

-- the types of the fields: a type of texts, INT4 and INT8
abbrev pub accepts_row : FieldsContent → Bool
accepts_row = accepts_and accepted_text (accepts_and (is_row Int4) (accepts_and (is_row Int8) no_fields))

-- what the price reads as, then the supplier and the price, then all fields
abbrev pub reads_price : FieldsContent → List ℕ → Outcome (And (Option ℤ) End) → Type 0
reads_price = ReadsAnd (λ ty. ReadsOption (ReadsSigned w64)) ReadsEnd

abbrev pub reads_supplier : FieldsContent → List ℕ → Outcome (And ℤ (And (Option ℤ) End)) → Type 0
reads_supplier = ReadsAnd (λ ty. ReadsSigned w32) reads_price

abbrev pub reads_row : FieldsContent → List ℕ → Outcome Row → Type 0
reads_row = ReadsAnd reads_text reads_supplier

abbrev pub row_bytes : FieldsContent → Row → Bytes
row_bytes = bytes_and text_cell (bytes_and (λ ty. wire_signed w32)
    (bytes_and (λ ty. wire_option (wire_signed w64)) (λ fs v. Ok [])))

-- each is read back as itself
abbrev pub back_row : FieldsContent → Row → Outcome Row → Type 0
back_row = BackAnd (λ ty. BackKept SameText) (BackAnd (λ ty. BackKept Equal)
    (BackAnd (λ ty. BackOption (wire_signed w64) (BackKept Equal)) BackEnd))

-- ---- the item

abbrev pub SameItem : InventoryItem → InventoryItem → Type 0
SameItem v w = SameRow (row_of v) (row_of w)

-- the composite type has this name, and fields of these names and types
abbrev pub item_names : List (List ℕ)
item_names = codes "name" ∷ codes "supplier_id" ∷ codes "price" ∷ []

abbrev pub accepts_item : Content → Bool
accepts_item = accepts_record (codes "InventoryItem") item_names accepts_row

-- a record of its fields, by their types
abbrev pub reads_item : FieldsContent → Cell → Outcome InventoryItem → Type 0
reads_item fs = ReadsThrough row_of (ReadsRecord (count_of fs) (reads_row fs))

abbrev pub item_bytes : FieldsContent → InventoryItem → Bytes
item_bytes fs v = record_bytes (count_of fs) (row_bytes fs (row_of v))

abbrev pub wire_item : FieldsContent → InventoryItem → Wire
wire_item fs v = wire_record (count_of fs) (row_bytes fs (row_of v))

-- what an item is read back as: itself
abbrev pub back_item : FieldsContent → InventoryItem → Outcome InventoryItem → Type 0
back_item fs v = Through row_of (back_row fs (row_of v))
