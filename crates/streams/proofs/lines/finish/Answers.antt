-- What the proof of `finish` answers by hand.
use Rattle.std.proofs.Common.{◌≡◌, ℕ, List, [], ◌∷◌, length, arith}
use Rattle.std.proofs.lemmas.Bool.Decides.{nat_tests}
use Rattle.std.proofs.KnownBytes.{Keeps-refl}
use Rattle.streams.specs.Answers.{Answered, Answering}
use Rattle.streams.proofs.Answers.{gained, gains_one, writes_none}
use Rattle.streams.proofs.LineLaws.{no_lines, last_line}
use Rattle.streams.proofs.lines.finish.Goals as goal

pub returns-then-is_empty-clause-ok : goal.returns-then-is_empty-clause-ok
returns-then-is_empty-clause-ok g c =
    let none : length c.args.line.now ≡ 0 = grind (arith, nat_tests, c.if-is_empty.ensures) in
    rw (no_lines c.args.line.now none)
    (writes_none (g.A.AnswerLine.answers c.args.answerer.now) (g.W.Write.contents c.args.output.now))

pub returns-in-Ok-clause-ok : goal.returns-in-Ok-clause-ok
returns-in-Ok-clause-ok g c =
    let A : Answering = g.A.AnswerLine.answers c.args.answerer.now in
    let line : List ℕ = c.args.line.now in
    let some : length line ≡ 0 → ⊥ = grind (arith, nat_tests, c.if-is_empty.ensures) in
    let put = c.in_default.ensures.ok in
    let gains = gains_one A line put.0 c.args.pending.now.items c.answer.new.pending.items put.1 put.2 in
    let text : Answered A (line ∷ []) c.as_slice.result.now =
    rw c.as_slice.ensures (gained A (line ∷ []) _ _ gains c.requires.empty) in
    rw (last_line line c.requires.one_line some) (c.as_slice.result.now, text, c.in-Ok.ensures.ok)

pub returns-in-Err-clause-err : goal.returns-in-Err-clause-err
returns-in-Err-clause-err g c =
    let some : length c.args.line.now ≡ 0 → ⊥ = grind (arith, nat_tests, c.if-is_empty.ensures) in (
      last_line c.args.line.now c.requires.one_line some,
      Keeps-refl (g.W.Write.contents c.args.output.now),
      c.in-Err.ensures.refused,
    )

pub returns-in-Err-write_whole-clause-err : goal.returns-in-Err-write_whole-clause-err
returns-in-Err-write_whole-clause-err g c =
    let A : Answering = g.A.AnswerLine.answers c.args.answerer.now in
    let line : List ℕ = c.args.line.now in
    let some : length line ≡ 0 → ⊥ = grind (arith, nat_tests, c.if-is_empty.ensures) in
    let put = c.in_default.ensures.ok in
    let gains = gains_one A line put.0 c.args.pending.now.items c.answer.new.pending.items put.1 put.2 in
    let text : Answered A (line ∷ []) c.as_slice.result.now =
    rw c.as_slice.ensures (gained A (line ∷ []) _ _ gains c.requires.empty) in
    let w = c.in-Err-write_whole.ensures.err in
    rw (last_line line c.requires.one_line some)
    (record { text = c.as_slice.result.now; written = w.0; answers = text; appends = w.2 })
