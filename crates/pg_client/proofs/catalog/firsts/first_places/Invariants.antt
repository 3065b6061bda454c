-- The rows so far.
use Rattle.pg_client.proofs.FirstRows.{HasFirstsBelow}
use Rattle.pg_client.proofs.catalog.firsts.first_places.Given as goal

-- the first ones of their OIDs
abbrev pub invariant-loop-place : goal.invariant-loop-place
invariant-loop-place l = HasFirstsBelow l.rows l.firsts l.place
