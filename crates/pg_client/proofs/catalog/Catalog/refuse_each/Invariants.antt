-- What the rows so far leave.
use Rattle.std.proofs.Common.{◌≡◌, take}
use Rattle.std.specs.List.{AllZip}
use Rattle.pg_client.specs.CatalogTypes.{refused_of, table_of}
use Rattle.pg_client.specs.WholeCatalogs.{IsRefusal}
use Rattle.pg_client.proofs.catalog.Catalog.refuse_each.Given as goal

-- they are the refused ones, and the types stay
abbrev pub invariant-loop-row : goal.invariant-loop-row
invariant-loop-row l = record {
  types : table_of l.self ≡ table_of l.initial.self;
  refused : AllZip (λ row. IsRefusal (table_of l.self) l.rows row.place) (take l.row-index l.left) (refused_of l.self);
}
