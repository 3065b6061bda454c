-- What the proof of `item_to_sql` answers by hand.
use Rattle.std.proofs.Common.{◌≡◌, ℕ, List, false, IsTrue, Result, Ok, Err, sym, ap, ◌∙◌, subst, take}
use Rattle.std.specs.Bool.{⊤}
use Rattle.std.specs.Result.{is_err}
use Rattle.pg_types.specs.Content.{fields_content}
use Rattle.pg_types.specs.declared.fault.Fault.{Fault}
use Rattle.pg_record.proofs.ItemFields.{accepted_three, first_accepted, second_accepted, third_accepted}
use Rattle.pg_record.specs.InventoryItems.{accepts_row, item_bytes}
use Rattle.postgres_types.proofs.RecordSteps.{part_taken_back}
use Rattle.postgres_types.specs.Records.{AppendsBytes, AppendsBytesOrPart, Bytes}
use Rattle.pg_record.proofs.inventory_item.item_to_sql.Goals as goal

-- no part is there without a refusal
not_part : (w : Bytes) (old new : List ℕ) (result : Result ⊤ Fault)
    → AppendsBytesOrPart w old new result → is_err result ≡ false → AppendsBytes w old new result
not_part w old new (Ok done) h e = h
not_part w old new (Err f) h e = let no : ⊥ = cc in absurd no

pub append_fields-outcome-requires-clause-name : goal.append_fields-outcome-requires-clause-name
append_fields-outcome-requires-clause-name c =
    let these = accepted_three c.args.fields.now c.name-item.result c.supplier_id-item.result c.price-item.result c.requires
    c.name-item.is c.supplier_id-item.is c.price-item.is in
    first_accepted c.name-item.result c.supplier_id-item.result c.price-item.result
    (subst (λ fs. IsTrue (accepts_row (fields_content fs))) these c.requires)

pub append_fields-outcome-requires-clause-supplier_id : goal.append_fields-outcome-requires-clause-supplier_id
append_fields-outcome-requires-clause-supplier_id c =
    let these = accepted_three c.args.fields.now c.name-item.result c.supplier_id-item.result c.price-item.result c.requires
    c.name-item.is c.supplier_id-item.is c.price-item.is in
    second_accepted c.name-item.result c.supplier_id-item.result c.price-item.result
    (subst (λ fs. IsTrue (accepts_row (fields_content fs))) these c.requires)

pub append_fields-outcome-requires-clause-price : goal.append_fields-outcome-requires-clause-price
append_fields-outcome-requires-clause-price c =
    let these = accepted_three c.args.fields.now c.name-item.result c.supplier_id-item.result c.price-item.result c.requires
    c.name-item.is c.supplier_id-item.is c.price-item.is in
    third_accepted c.name-item.result c.supplier_id-item.result c.price-item.result
    (subst (λ fs. IsTrue (accepts_row (fields_content fs))) these c.requires)

pub returns-then-is_err-clause-bytes : goal.returns-then-is_err-clause-bytes
returns-then-is_err-clause-bytes c =
    let these = accepted_three c.args.fields.now c.name-item.result c.supplier_id-item.result c.price-item.result c.requires
    c.name-item.is c.supplier_id-item.is c.price-item.is in
    let old = c.args.out.now.items in
    subst (λ fs. AppendsBytes (item_bytes (fields_content fs) c.args.item.now) old c.truncate.new.self.items
    c.append_fields-outcome.result) (sym these)
    (part_taken_back _ old c.append_fields-outcome.new.out.items _ c.append_fields-outcome.result c.append_fields-outcome.ensures.bytes
    (sym c.is_err.ensures.value ∙ c.if-is_err.true)
    (c.truncate.ensures.items ∙ ap (λ n. take n c.append_fields-outcome.new.out.items) c.len-start.ensures.value))

pub returns-else-is_err-clause-bytes : goal.returns-else-is_err-clause-bytes
returns-else-is_err-clause-bytes c =
    let these = accepted_three c.args.fields.now c.name-item.result c.supplier_id-item.result c.price-item.result c.requires
    c.name-item.is c.supplier_id-item.is c.price-item.is in
    let outcome = c.append_fields-outcome in
    subst (λ fs. AppendsBytes (item_bytes (fields_content fs) c.args.item.now) c.args.out.now.items outcome.new.out.items
    outcome.result) (sym these)
    (not_part _ c.args.out.now.items outcome.new.out.items outcome.result outcome.ensures.bytes
    (sym c.is_err.ensures.value ∙ c.if-is_err.false))
