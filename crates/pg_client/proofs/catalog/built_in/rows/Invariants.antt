-- What the loop of `rows` keeps.
use Rattle.std.proofs.Common.{take}
use Rattle.std.specs.List.{AllZip}
use Rattle.pg_client.specs.CatalogTypes.{IsRowOf}
use Rattle.pg_client.proofs.catalog.built_in.rows.Given as goal

abbrev pub invariant-loop-ty : goal.invariant-loop-ty
invariant-loop-ty l = AllZip IsRowOf (take l.ty-index l.types) l.rows.items
