-- What the proof of `write_tuples` answers by hand.
use Rattle.std.proofs.Common.{List, [], append-nil, inl, subst, sym}
use Rattle.streams.specs.Answers.{LinesAre}
use Rattle.streams.proofs.Outcomes.{err_known, err_of, ok_of}
use Rattle.pg_copy.specs.declared.columns.Column.{Column}
use Rattle.pg_copy.proofs.WrittenLaws.{Begun, ends, header_part, some_lines, stops, trailer_part}
use Rattle.pg_copy.proofs.write.write_tuples.Goals as goal

pub returns-then-is_err-clause-err : goal.returns-then-is_err-clause-err
returns-then-is_err-clause-err g c =
    let w = err_of c.write_whole.result _ c.write_whole.ensures.err c.if-is_err.ensures.value in
    let rest = some_lines (g.R.Read.remaining c.args.input.now) in
    ([], rest.0, rest.1, inl (header_part c.args.columns.now _ _ w.0 w.1 w.2))

pub returns-in_err-answer_lines-clause-err : goal.returns-in_err-answer_lines-clause-err
returns-in_err-answer_lines-clause-err g c =
    let columns : List Column = c.args.columns.now in
    let input = g.R.Read.remaining c.args.input.now in
    let left = g.R.Read.remaining c.answer_lines.new.input in
    let a = g.W.Write.contents c.args.output.now in
    let b = g.W.Write.contents c.write_whole.new.output in
    let d = g.W.Write.contents c.answer_lines.new.output in
    let begun = ok_of c.write_whole.result _ c.write_whole.ensures.ok c.if-is_err.ensures.value in
    let run = c.in_err-answer_lines.ensures in
    err_known c.from_residual.result (λ fault is. subst (Begun columns input left a d) (sym is)
    (stops columns input left a b d begun c.in_err-answer_lines.field-0.0 run.whole run.refused run.read run.partial))
    c.from_residual.ensures.1

pub returns-in-Ok-write_whole-clause-ok : goal.returns-in-Ok-write_whole-clause-ok
returns-in-Ok-write_whole-clause-ok g c =
    let begun = ok_of c.write_whole.result _ c.write_whole.ensures.ok c.if-is_err.ensures.value in
    let all = c.in_ok-answer_lines.ensures.ok in
    (all.0, all.1, ends c.args.columns.now all.0 _ _ _ begun _ all.2 c.in-Ok-write_whole.ensures.ok)

pub returns-clause-err : goal.returns-clause-err
returns-clause-err g c =
    let input = g.R.Read.remaining c.args.input.now in
    let begun = ok_of c.write_whole.result _ c.write_whole.ensures.ok c.if-is_err.ensures.value in
    let all = c.in_ok-answer_lines.ensures.ok in
    let t = c.in-Err.ensures.err in (
      all.0,
      [],
      subst (LinesAre input) (sym (append-nil all.0)) all.1,
      inl (trailer_part c.args.columns.now all.0 _ _ _ begun _ all.2 t.0 t.2),
    )
