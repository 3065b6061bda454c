-- The invariant of `read_rows`: lines of whole rows were written, none is pending,
-- and nothing whole is held.
use Rattle.std.proofs.Common.{◌≡◌, []}
use Rattle.pg_copy.proofs.ReadingRuns.{UnderWay}
use Rattle.pg_copy.specs.ReadingSteps.{Awaits}
use Rattle.pg_copy.specs.declared.read.Place.TheVariants.{End}
use Rattle.pg_copy.proofs.read.read_rows.Given as goal

abbrev pub invariant-reads : goal.invariant-reads
invariant-reads g l =
    (l.reading.columns.now ≡ l.columns) × (l.reading.lines.items ≡ []) × (l.reading.place ≡ End → l.held.items ≡ [])
    × Awaits l.columns l.reading.place l.held.items
    × UnderWay l.columns (g.R.Read.remaining l.initial.input) (g.W.Write.contents l.initial.output) l.reading.place
    l.reading.row l.held.items (g.R.Read.remaining l.input) (g.W.Write.contents l.output)
