-- What the proof of `fmt` answers by hand.
use Rattle.pg_client.proofs.placed_fault.PlaceDisplay.fmt.Goals as goal

pub returns-in-Columns-clause-writes : goal.returns-in-Columns-clause-writes
returns-in-Columns-clause-writes g c = rw c.in-Columns.is c.write.ensures.writes

pub returns-in-Parameters-clause-writes : goal.returns-in-Parameters-clause-writes
returns-in-Parameters-clause-writes g c = rw c.in-Parameters.is c.write-in-Parameters.ensures.writes
