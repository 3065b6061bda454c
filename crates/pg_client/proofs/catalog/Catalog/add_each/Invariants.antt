-- What the rows so far leave.
use Rattle.std.proofs.Common.{◌≡◌, ◌≤◌, length, take}
use Rattle.pg_client.specs.CatalogTypes.{refused_of, table_of}
use Rattle.pg_client.specs.WholeCatalogs.{AreMadeOrLeft, AreStuck, Ascend, Grows, places_left}
use Rattle.pg_client.proofs.RefusedRows.{AreAmong}
use Rattle.pg_client.proofs.catalog.Catalog.add_each.Given as goal

-- each of them is made or left, and if all are left, nothing was added
abbrev pub invariant-loop-place : goal.invariant-loop-place
invariant-loop-place l = record {
  grows : Grows l.rows (table_of l.initial.self) (table_of l.self);
  all : AreMadeOrLeft (table_of l.self) l.rows (take l.place-index l.places) l.left.items;
  among : AreAmong (take l.place-index l.places) l.left.items;
  order : Ascend l.places → Ascend (places_left l.left.items);
  fewer : length l.left.items ≤ l.place-index;
  stuck : length l.left.items ≡ l.place-index → AreStuck (table_of l.self) l.rows l.left.items;
  refused : refused_of l.self ≡ refused_of l.initial.self;
}
