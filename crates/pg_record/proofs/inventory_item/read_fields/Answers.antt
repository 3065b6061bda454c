-- What the proof of `read_fields` answers by hand.
use Rattle.std.proofs.Common.{[], ◌∷◌, Ok, Err, Some, IfSome, refl, w32, w64}
use Rattle.std.proofs.lemmas.Int.{to_z-of_z}
use Rattle.std.proofs.lemmas.Option.{IfSome_then}
use Rattle.std.proofs.lemmas.Result.{err_from_is_err_and}
use Rattle.pg_base.specs.Numbers.{ReadsSigned}
use Rattle.pg_base.specs.Options.{NoneOr}
use Rattle.pg_types.specs.Content.{content, fields_content, oid_of}
use Rattle.pg_types.specs.Faults.{refusal_of}
use Rattle.pg_read.specs.OptionReading.{ReadsOption}
use Rattle.pg_read.specs.Reading.{EveryCell, NullAlone}
use Rattle.postgres_types.proofs.RecordSteps.{and_others_refused, and_read, and_refused, count_passed}
use Rattle.postgres_types.proofs.RecordSteps.{end_passed, end_refused}
use Rattle.postgres_types.specs.CompositeFields.{ReadsEnd, and, end}
use Rattle.pg_record.proofs.ItemFields.{field_fits}
use Rattle.pg_record.specs.InventoryItems.{reads_price, reads_row, reads_supplier, reads_text}
use Rattle.pg_record.proofs.inventory_item.read_fields.Goals as goal

pub returns-in_err-name : goal.returns-in_err-name
returns-in_err-name c =
    let f = c.args.name.now in
    let g = c.args.supplier_id.now in
    let h = c.args.price.now in
    let p = err_from_is_err_and c.from_residual-in_err-name.result c.from_residual-in_err-name.ensures.1 in
    let fault = c.in_err-name.field-0.0 in
    rw (p.1, p.2) (IfSome_then (refusal_of fault)
    (and_refused reads_text NullAlone reads_supplier c.read_field_count.new.buf.now c.read_field.new.buf.now
    (f ∷ g ∷ h ∷ []) (g ∷ h ∷ []) f c.type_.result.now refl c.type_.ensures
    fault c.in_err-name.ensures)
    (λ r. count_passed 3 (reads_row (fields_content (f ∷ g ∷ h ∷ []))) c.args.raw.now _ (Err r)
    c.in_ok-read_field_count.ensures))

pub returns-in_err-supplier_id : goal.returns-in_err-supplier_id
returns-in_err-supplier_id c =
    let f = c.args.name.now in
    let g = c.args.supplier_id.now in
    let h = c.args.price.now in
    let p = err_from_is_err_and c.from_residual-in_err-supplier_id.result c.from_residual-in_err-supplier_id.ensures.1 in
    let fault = c.in_err-supplier_id.field-0.0 in
    rw (p.1, p.2) (IfSome_then (refusal_of fault)
    (and_others_refused reads_text NullAlone reads_supplier c.read_field_count.new.buf.now c.read_field.new.buf.now
    (f ∷ g ∷ h ∷ []) (g ∷ h ∷ []) f c.type_.result.now refl c.type_.ensures
    c.in_ok-name.name c.in_ok-name.ensures (refusal_of fault)
    (and_refused (λ ty. ReadsSigned w32) EveryCell reads_price c.read_field.new.buf.now c.read_field-2.new.buf.now
    (g ∷ h ∷ []) (h ∷ []) g c.type_-2.result.now refl c.type_-2.ensures
    fault c.in_err-supplier_id.ensures))
    (λ r. count_passed 3 (reads_row (fields_content (f ∷ g ∷ h ∷ []))) c.args.raw.now _ (Err r)
    c.in_ok-read_field_count.ensures))

pub returns-in_err-price : goal.returns-in_err-price
returns-in_err-price c =
    let f = c.args.name.now in
    let g = c.args.supplier_id.now in
    let h = c.args.price.now in
    let p = err_from_is_err_and c.from_residual-in_err-price.result c.from_residual-in_err-price.ensures.1 in
    let fault = c.in_err-price.field-0.0 in
    rw (p.1, p.2) (IfSome_then (refusal_of fault)
    (and_others_refused reads_text NullAlone reads_supplier c.read_field_count.new.buf.now c.read_field.new.buf.now
    (f ∷ g ∷ h ∷ []) (g ∷ h ∷ []) f c.type_.result.now refl c.type_.ensures
    c.in_ok-name.name c.in_ok-name.ensures (refusal_of fault)
    (and_others_refused (λ ty. ReadsSigned w32) EveryCell reads_price c.read_field.new.buf.now c.read_field-2.new.buf.now
    (g ∷ h ∷ []) (h ∷ []) g c.type_-2.result.now refl c.type_-2.ensures
    c.in_ok-supplier_id.supplier_id c.in_ok-supplier_id.ensures (refusal_of fault)
    (and_refused (λ ty. ReadsOption (ReadsSigned w64)) (NoneOr (λ b. EveryCell (Some b))) ReadsEnd
    c.read_field-2.new.buf.now c.read_field-3.new.buf.now (h ∷ []) [] h c.type_-3.result.now refl c.type_-3.ensures
    fault c.in_err-price.ensures)))
    (λ r. count_passed 3 (reads_row (fields_content (f ∷ g ∷ h ∷ []))) c.args.raw.now _ (Err r)
    c.in_ok-read_field_count.ensures))

pub returns-in_err-read_end : goal.returns-in_err-read_end
returns-in_err-read_end c =
    let f = c.args.name.now in
    let g = c.args.supplier_id.now in
    let h = c.args.price.now in
    let p = err_from_is_err_and c.from_residual-in_err-read_end.result c.from_residual-in_err-read_end.ensures.1 in
    let fault = c.in_err-read_end.field-0.0 in
    rw (p.1, p.2) (IfSome_then (refusal_of fault)
    (and_others_refused reads_text NullAlone reads_supplier c.read_field_count.new.buf.now c.read_field.new.buf.now
    (f ∷ g ∷ h ∷ []) (g ∷ h ∷ []) f c.type_.result.now refl c.type_.ensures
    c.in_ok-name.name c.in_ok-name.ensures (refusal_of fault)
    (and_others_refused (λ ty. ReadsSigned w32) EveryCell reads_price c.read_field.new.buf.now c.read_field-2.new.buf.now
    (g ∷ h ∷ []) (h ∷ []) g c.type_-2.result.now refl c.type_-2.ensures
    c.in_ok-supplier_id.supplier_id c.in_ok-supplier_id.ensures (refusal_of fault)
    (and_others_refused (λ ty. ReadsOption (ReadsSigned w64)) (NoneOr (λ b. EveryCell (Some b))) ReadsEnd
    c.read_field-2.new.buf.now c.read_field-3.new.buf.now (h ∷ []) [] h c.type_-3.result.now refl c.type_-3.ensures
    c.in_ok-price.price c.in_ok-price.ensures (refusal_of fault)
    (end_refused c.read_field-3.new.buf.now fault c.in_err-read_end.ensures))))
    (λ r. count_passed 3 (reads_row (fields_content (f ∷ g ∷ h ∷ []))) c.args.raw.now _ (Err r)
    c.in_ok-read_field_count.ensures))

pub returns : goal.returns
returns c =
    let f = c.args.name.now in
    let g = c.args.supplier_id.now in
    let h = c.args.price.now in
    let fits = field_fits (oid_of (content c.type_-2.result.now)) c.read_field.new.buf.now c.read_field-2.new.buf.now
    c.in_ok-supplier_id.supplier_id c.in_ok-supplier_id.ensures in
    rw (to_z-of_z w32 c.in_ok-supplier_id.supplier_id fits)
    (count_passed 3 (reads_row (fields_content (f ∷ g ∷ h ∷ []))) c.args.raw.now _
    (Ok (and c.in_ok-name.name (and c.in_ok-supplier_id.supplier_id (and c.in_ok-price.price end))))
    c.in_ok-read_field_count.ensures
    (and_read reads_text NullAlone reads_supplier c.read_field_count.new.buf.now c.read_field.new.buf.now
    (f ∷ g ∷ h ∷ []) (g ∷ h ∷ []) f c.type_.result.now refl c.type_.ensures
    c.in_ok-name.name c.in_ok-name.ensures _
    (and_read (λ ty. ReadsSigned w32) EveryCell reads_price c.read_field.new.buf.now c.read_field-2.new.buf.now
    (g ∷ h ∷ []) (h ∷ []) g c.type_-2.result.now refl c.type_-2.ensures
    _ c.in_ok-supplier_id.ensures _
    (and_read (λ ty. ReadsOption (ReadsSigned w64)) (NoneOr (λ b. EveryCell (Some b))) ReadsEnd
    c.read_field-2.new.buf.now c.read_field-3.new.buf.now (h ∷ []) [] h c.type_-3.result.now refl c.type_-3.ensures
    c.in_ok-price.price c.in_ok-price.ensures end (end_passed c.read_field-3.new.buf.now c.in_ok-read_end.ensures)))))
