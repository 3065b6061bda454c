-- The types that were read.
use Rattle.std.proofs.Common.{◌≡◌, length}
use Rattle.pg_client.specs.CatalogTypes.{table_of}
use Rattle.pg_client.specs.Descriptions.{InTurn, IsType}
use Rattle.pg_client.proofs.described.parameter_types.Given as goal

-- they stand before what is left, and are as many as were counted
abbrev pub invariant-loop-place : goal.invariant-loop-place
invariant-loop-place l =
    (length l.types.items ≡ l.place)
    × InTurn (IsType (table_of l.catalog)) l.types.items l.oids l.rest
