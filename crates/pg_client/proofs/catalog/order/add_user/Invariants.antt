-- How many of the parts so far are rows.
use Rattle.std.proofs.Common.{◌≤◌}
use Rattle.pg_client.proofs.catalog.order.add_user.Given as goal

-- no more than there are
abbrev pub invariant-loop-oid : goal.invariant-loop-oid
invariant-loop-oid l = l.count ≤ l.oid-index
