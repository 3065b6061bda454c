-- The invariant of `push_line`: the fields of so many columns were appended.
use Rattle.std.proofs.Common.{◌≡◌, take}
use Rattle.pg_copy.proofs.LineLaws.{TakesFields}
use Rattle.pg_copy.proofs.read.Reading.push_line.Given as goal

abbrev pub invariant-columns : goal.invariant-columns
invariant-columns l =
    (l.self.columns.now ≡ l.initial.self.columns.now) × (l.self.place ≡ l.initial.self.place)
    × (l.self.row ≡ l.initial.self.row)
    × TakesFields (take l.place l.columns) l.initial.fields.now l.fields.now l.initial.self.lines.items
    l.self.lines.items
