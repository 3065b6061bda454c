-- The invariants and measures of `elements_to_sql`.
use Rattle.std.proofs.Common.{Ok, take}
use Rattle.pg_base.specs.Appending.{KeepsCapacity}
use Rattle.pg_types.specs.Content.{content}
use Rattle.pg_write.specs.ParamWriting.{AppendsFrames}
use Rattle.pg_write.proofs.arrays.elements_to_sql.Given as goal

-- the frames so far; and the buffer takes no less than it did
abbrev pub invariant-loop-value : goal.invariant-loop-value
invariant-loop-value g l =
    AppendsFrames (g.T.ToSql.wire (content l.element)) (take l.value-index l.values) l.initial.out.items l.out.items
    (Ok l.has_null)
    × KeepsCapacity l.initial.out l.out
