-- The invariants and measures of `take_block`.
use Rattle.std.proofs.Common.{length, ◌++◌}
use Rattle.streams.specs.Lines.{IsOneLine}
use Rattle.streams.specs.Answers.{TakesLines, Within}
use Rattle.streams.proofs.lines.take_block.Given as goal

abbrev pub invariant-lines : goal.invariant-lines
invariant-lines g l =
    IsOneLine l.line.items
    × TakesLines (g.A.AnswerLine.answers l.initial.answerer) (l.initial.line.items ++ l.initial.rest)
    (l.line.items ++ l.rest) l.initial.pending.items l.pending.items
    × Within (g.A.AnswerLine.answers l.answerer) (g.A.AnswerLine.answers l.initial.answerer)
    × Within (g.A.AnswerLine.refuses l.answerer) (g.A.AnswerLine.refuses l.initial.answerer)

abbrev pub decreases-lines : goal.decreases-lines
decreases-lines g l = length l.rest
