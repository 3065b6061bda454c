-- What the proof of `refuse` answers by hand.
use Rattle.std.proofs.Common.{refl, sym}
use Rattle.pg_client.specs.WholeCatalogs.{IsWhyRefused}
use Rattle.pg_client.proofs.CatalogGrowth.{some_at}
use Rattle.pg_client.proofs.catalog.Catalog.refuse.Goals as goal

pub returns-clause-refused : goal.returns-clause-refused
returns-clause-refused c =
    let row = c.in-Some.row.now in
    let at = c.in-Some.ensures.some in
    let why : IsWhyRefused c.args.self.now.types c.args.rows.now c.args.place row c.args.fault =
    some_at _ _ row at c.requires in
    (_, c.in_ok-push.ensures.items, rw at (refl, sym c.in_ok-from_str.ensures.ok, why))
