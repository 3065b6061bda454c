-- The invariant of `take_tuples`: whole tuples were taken, each of two bytes at least.
use Rattle.std.proofs.Common.{◌≡◌, ◌+◌, ◌≤◌, length}
use Rattle.pg_copy.specs.ReadingSteps.{Advances}
use Rattle.pg_copy.specs.declared.read.Place.TheVariants.{Tuples}
use Rattle.pg_copy.proofs.read.Reading.take_tuples.Given as goal

abbrev pub invariant-tuples : goal.invariant-tuples
invariant-tuples l =
    (l.self.columns.now ≡ l.initial.self.columns.now) × (l.self.place ≡ Tuples)
    × Advances l.initial.self.columns.now Tuples l.initial.self.row l.initial.bytes.now l.initial.self.lines.items
    Tuples
    l.self.row l.bytes.now l.self.lines.items
    × (length l.bytes.now + (l._turn + l._turn) ≤ length l.initial.bytes.now)
