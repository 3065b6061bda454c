-- What the proof of `to_sql` answers by hand.
use Rattle.std.proofs.Common.{IsTrue, sym, subst}
use Rattle.std.specs.Prelude.{codes}
use Rattle.pg_types.specs.Content.{content}
use Rattle.postgres_types.specs.Laws.Composites.{fields_accepted}
use Rattle.pg_record.specs.InventoryItems.{accepts_row, item_names}
use Rattle.pg_record.proofs.inventory_item.InventoryItemToSql.to_sql.Goals as goal

pub item_to_sql-requires : goal.item_to_sql-requires
item_to_sql-requires c =
    subst (λ fs. IsTrue (accepts_row fs)) (sym c.fields_of.ensures.fields)
    (fields_accepted (codes "InventoryItem") item_names accepts_row (content c.args.ty.now) c.requires)
