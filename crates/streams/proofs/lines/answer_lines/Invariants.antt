-- The invariant of `answer_lines`.
use Rattle.std.proofs.Common.{◌≡◌, []}
use Rattle.streams.specs.Lines.{IsOneLine}
use Rattle.streams.specs.Answers.{IsUnderWay, Within}
use Rattle.streams.proofs.lines.answer_lines.Given as goal

abbrev pub invariant-reads : goal.invariant-reads
invariant-reads g l =
    IsOneLine l.line.items × (l.pending.items ≡ [])
    × IsUnderWay (g.A.AnswerLine.answers l.initial.answerer) (g.R.Read.remaining l.initial.input)
    (g.R.Read.remaining l.input) (g.W.Write.contents l.initial.output) (g.W.Write.contents l.output) l.line.items
    × Within (g.A.AnswerLine.answers l.answerer) (g.A.AnswerLine.answers l.initial.answerer)
    × Within (g.A.AnswerLine.refuses l.answerer) (g.A.AnswerLine.refuses l.initial.answerer)
