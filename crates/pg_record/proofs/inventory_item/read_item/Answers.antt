-- What the proof of `read_item` answers by hand.
use Rattle.std.proofs.Common.{Some, sym, subst}
use Rattle.pg_types.specs.Content.{fields_content}
use Rattle.pg_types.specs.Faults.{Answers}
use Rattle.pg_record.proofs.ItemFields.{accepted_three}
use Rattle.pg_record.specs.InventoryItems.{reads_item}
use Rattle.pg_record.proofs.inventory_item.read_item.Goals as goal

pub returns : goal.returns
returns c =
    let these = accepted_three c.args.fields.now c.name-item.result c.supplier_id-item.result c.price-item.result c.requires
    c.name-item.is c.supplier_id-item.is c.price-item.is in
    subst (λ fs. Answers (reads_item (fields_content fs) (Some c.args.raw.now)) c.read_fields.result) (sym these)
    c.read_fields.ensures
