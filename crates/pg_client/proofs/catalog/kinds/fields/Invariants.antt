-- The fields that were made.
use Rattle.std.proofs.Common.{length, take}
use Rattle.std.specs.List.{AllZip, zip}
use Rattle.pg_client.specs.CatalogTypes.{IsField, table_of}
use Rattle.pg_client.proofs.catalog.kinds.fields.Given as goal

-- those of the pairs so far
abbrev pub invariant-loop-name : goal.invariant-loop-name
invariant-loop-name l =
    AllZip (λ column field. IsField (table_of l.catalog) column.0.now column.1 field)
    (take (length l.yielded) (zip l.names l.types)) l.fields.items
