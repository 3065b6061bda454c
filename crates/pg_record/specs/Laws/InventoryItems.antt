-- Laws of inventory items, each from those of the fields.
use Rattle.std.specs.Prelude.{ℕ, List, IsTrue, codes, string_bytes}
use Rattle.std.specs.Int.{w32, w64}
use Rattle.pg_types.specs.Content.{Content, FieldsContent, is_row, kind_of}
use Rattle.pg_types.specs.declared.types.built_in.BuiltIn.TheVariants.{Int4, Int8}
use Rattle.pg_base.proofs.FormatLaws.{text_grammar}
use Rattle.pg_base.proofs.SamenessLaws.{content_equivalence, equal_equivalence, inside_equivalence, option_equivalence}
use Rattle.pg_base.specs.Numbers.{ReadsSigned, wire_signed}
use Rattle.pg_base.specs.Sameness.{IsEquivalence, SameOption}
use Rattle.pg_base.specs.Texts.{FormText, accepted_text, first_fault_text, has_version}
use Rattle.pg_read.specs.OptionReading.{ReadsOption}
use Rattle.pg_read.specs.Reading.{GivesSingle, ReadsSingle}
use Rattle.pg_read.specs.Laws.Reading.{option_single, plain_single, through_single}
use Rattle.pg_write.specs.OptionWriting.{wire_option}
use Rattle.postgres_types.specs.CompositeFields.{BackEnd, ReadsEnd, no_fields}
use Rattle.postgres_types.specs.Laws.CompositeFields.{and_equivalence, and_lawful, and_single, no_fields_equivalence}
use Rattle.postgres_types.specs.Laws.CompositeFields.{no_fields_lawful, no_fields_single}
use Rattle.postgres_types.specs.Composites.{reads_record, record_cell}
use Rattle.postgres_types.specs.Laws.Composites.{composite_lawful, composite_single}
use Rattle.postgres_types.specs.Conversion.{int4_lawful, int4_single, int8_lawful, int8_single}
use Rattle.postgres_types.specs.Laws.TextBack.{text_lawful}
use Rattle.postgres_types.specs.Laws.OptionBack.{option_lawful}
use Rattle.postgres_types.specs.ReadingBack.{BackKept, BackOption, IsLawful}
use Rattle.postgres_types.specs.Laws.Record.{AreLawful}
use Rattle.postgres_types.specs.Records.{fields_of_kind}
use Rattle.postgres_types.specs.Laws.ViewBack.{through_lawful}
use Rattle.pg_record.specs.declared.inventory_item.InventoryItem.{InventoryItem}
use Rattle.pg_record.specs.InventoryItems.{SameText, reads_text, text_cell, Equal, row_of, SameRow, accepts_row}
use Rattle.pg_record.specs.InventoryItems.{reads_row, row_bytes, back_row, SameItem, item_names, accepts_item}
use Rattle.pg_record.specs.InventoryItems.{reads_item, wire_item, back_item}

pub item_equivalence : IsEquivalence SameItem
item_equivalence = inside_equivalence row_of SameRow (and_equivalence SameText _ (content_equivalence string_bytes)
    (and_equivalence Equal _ equal_equivalence
    (and_equivalence (SameOption Equal) _ (option_equivalence Equal equal_equivalence) no_fields_equivalence)))

row_single : (fs : FieldsContent) → IsTrue (accepts_row fs) → (s : List ℕ) → GivesSingle SameRow (reads_row fs s)
row_single = and_single SameText accepted_text reads_text _ _ _
    (λ ty _. plain_single SameText (FormText string_bytes (has_version ty)) (first_fault_text (has_version ty))
    (text_grammar string_bytes (has_version ty)))
    (and_single Equal (is_row Int4) (λ ty. ReadsSigned w32) _ _ _ (λ _ _. int4_single)
    (and_single (SameOption Equal) (is_row Int8) (λ ty. ReadsOption (ReadsSigned w64)) _ no_fields ReadsEnd
    (λ _ _. option_single Equal (ReadsSigned w64) int8_single) (λ fs _. no_fields_single fs)))

pub item_single : (ty : Content) → IsTrue (accepts_item ty)
    → ReadsSingle SameItem (reads_item (fields_of_kind (kind_of ty)))
item_single ty ok = through_single row_of SameRow (reads_record reads_row ty)
    (composite_single (codes "InventoryItem") item_names accepts_row SameRow reads_row row_single ty ok)

row_lawful : (fs : FieldsContent) → IsTrue (accepts_row fs)
    → AreLawful SameRow (reads_row fs) (row_bytes fs) (back_row fs)
row_lawful = and_lawful SameText accepted_text reads_text _ _ _ text_cell (λ ty. BackKept SameText) _ _
    (λ ty _. text_lawful string_bytes (has_version ty))
    (and_lawful Equal (is_row Int4) (λ ty. ReadsSigned w32) _ _ _ (λ ty. wire_signed w32) (λ ty. BackKept Equal) _ _
    (λ _ _. int4_lawful)
    (and_lawful (SameOption Equal) (is_row Int8) (λ ty. ReadsOption (ReadsSigned w64)) _ no_fields ReadsEnd
    (λ ty. wire_option (wire_signed w64)) (λ ty. BackOption (wire_signed w64) (BackKept Equal)) _ BackEnd
    (λ _ _. option_lawful Equal (ReadsSigned w64) (wire_signed w64) (BackKept Equal) int8_lawful)
    (λ fs _. no_fields_lawful fs)))

pub item_lawful : (ty : Content) → IsTrue (accepts_item ty)
    → IsLawful SameItem (reads_item (fields_of_kind (kind_of ty))) (wire_item (fields_of_kind (kind_of ty)))
    (back_item (fields_of_kind (kind_of ty)))
item_lawful ty ok = through_lawful row_of (reads_record reads_row ty) SameRow (record_cell row_bytes ty)
    (back_row (fields_of_kind (kind_of ty)))
    (composite_lawful (codes "InventoryItem") item_names accepts_row SameRow reads_row row_bytes back_row row_lawful ty ok)
