-- What the proof of `write` answers by hand.
use Rattle.std.proofs.Common.{◌∙◌, sym}
use Rattle.streams.proofs.Outcomes.{err_of, ok_of}
use Rattle.pg_copy.proofs.EndLaws.{stops_last, stops_no_copy, stops_part, stops_whole}
use Rattle.pg_copy.proofs.write.write.Goals as goal

pub returns-then-is_last-clause-err : goal.returns-then-is_last-clause-err
returns-then-is_last-clause-err g c =
    stops_last c.args.columns.now (g.R.Read.remaining c.args.input.now)
    (g.R.Read.remaining c.write_tuples.new.input) (g.W.Write.contents c.args.output.now)
    (g.W.Write.contents c.write_tuples.new.output) c.in-Err.fault (sym c.if-is_last.true ∙ c.is_last.ensures)
    c.in-Err.ensures.err

pub returns-then-is_err-clause-err : goal.returns-then-is_err-clause-err
returns-then-is_err-clause-err g c =
    let part = err_of c.write_whole.result _ c.write_whole.ensures.err c.if-is_err.ensures.value in
    stops_part c.args.columns.now (g.R.Read.remaining c.args.input.now)
    (g.R.Read.remaining c.write_tuples.new.input) (g.W.Write.contents c.args.output.now)
    (g.W.Write.contents c.write_tuples.new.output) (g.W.Write.contents c.write_whole.new.output) c.in-Err.fault
    part.0 c.in-Err.ensures.err (sym c.if-is_last.false ∙ c.is_last.ensures) part.2

pub returns-clause-err : goal.returns-clause-err
returns-clause-err g c =
    stops_whole c.args.columns.now (g.R.Read.remaining c.args.input.now)
    (g.R.Read.remaining c.write_tuples.new.input) (g.W.Write.contents c.args.output.now)
    (g.W.Write.contents c.write_tuples.new.output) (g.W.Write.contents c.write_whole.new.output) c.in-Err.fault
    c.in-Err.ensures.err (sym c.if-is_last.false ∙ c.is_last.ensures)
    (ok_of c.write_whole.result _ c.write_whole.ensures.ok c.if-is_err.ensures.value)

pub returns-clause-no_copy : goal.returns-clause-no_copy
returns-clause-no_copy g c = λ no_columns no_write.
    stops_no_copy c.args.columns.now (g.R.Read.remaining c.args.input.now)
    (g.R.Read.remaining c.write_tuples.new.input) (g.W.Write.contents c.args.output.now)
    (g.W.Write.contents c.write_tuples.new.output) (g.W.Write.contents c.write_whole.new.output) c.in-Err.fault
    c.in-Err.ensures.err (sym c.if-is_last.false ∙ c.is_last.ensures)
    (ok_of c.write_whole.result _ c.write_whole.ensures.ok c.if-is_err.ensures.value)
