-- What the proof of `from_sql` answers by hand.
use Rattle.std.proofs.Common.{IsTrue, Some, sym, subst}
use Rattle.std.specs.Prelude.{codes}
use Rattle.pg_types.specs.Content.{content}
use Rattle.pg_types.specs.Faults.{Answers}
use Rattle.postgres_types.specs.Laws.Composites.{fields_accepted}
use Rattle.pg_record.specs.InventoryItems.{accepts_row, item_names, reads_item}
use Rattle.pg_record.proofs.inventory_item.InventoryItemFromSql.from_sql.Goals as goal

pub read_item-requires : goal.read_item-requires
read_item-requires c =
    subst (λ fs. IsTrue (accepts_row fs)) (sym c.fields_of.ensures.fields)
    (fields_accepted (codes "InventoryItem") item_names accepts_row (content c.args.ty.now) c.requires)

pub returns-clause-outcome : goal.returns-clause-outcome
returns-clause-outcome c = subst (λ fs. Answers (reads_item fs (Some c.args.raw.now)) c.read_item.result)
    c.fields_of.ensures.fields c.read_item.ensures
