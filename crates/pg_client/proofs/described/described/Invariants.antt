-- The columns that were read.
use Rattle.std.proofs.Common.{◌≡◌, length}
use Rattle.pg_client.specs.CatalogTypes.{table_of}
use Rattle.pg_client.specs.Descriptions.{InTurn, IsColumn}
use Rattle.pg_client.proofs.described.described.Given as goal

-- they stand before what is left, and are as many as were counted
abbrev pub invariant-loop-place : goal.invariant-loop-place
invariant-loop-place l =
    (length l.columns.items ≡ l.place)
    × InTurn (IsColumn l.has_formats (table_of l.catalog)) l.columns.items l.descriptions l.rest
