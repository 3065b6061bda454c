-- The invariants and measures of `read_values`.
use Rattle.std.proofs.Common.{◌≡◌, List, length}
use Rattle.pg_base.specs.Cells.{Cell}
use Rattle.pg_types.specs.Content.{content}
use Rattle.pg_read.specs.RunReading.{HaveBeenRead}
use Rattle.pg_read.proofs.private.read_values.Given as goal

-- the cells so far, and that the list has what they give
abbrev pub invariant-loop : goal.invariant-loop
invariant-loop g l =
    (cs : List Cell) × (length cs ≡ l.counter)
    × HaveBeenRead (g.T.FromSql.reads (content l.type_)) l.fn.buf.now cs l.values.items l.buf.now
