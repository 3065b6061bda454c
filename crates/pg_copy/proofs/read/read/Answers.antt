-- What the proof of `read` answers by hand.
use Rattle.std.proofs.Common.{◌∙◌, sym}
use Rattle.streams.proofs.Outcomes.{err_of, ok_of}
use Rattle.pg_copy.proofs.EndLaws.{all_of, told, told_early, told_part}
use Rattle.pg_copy.proofs.RefusalLaws.{no_failed_write}
use Rattle.pg_copy.specs.Refusals.{StopsAfter}
use Rattle.pg_copy.specs.Rows.{IsFaultLine, StartsCopyOf}
use Rattle.pg_copy.proofs.read.read.Goals as goal

pub returns-then-is_write-clause-part : goal.returns-then-is_write-clause-part
returns-then-is_write-clause-part g c =
    told_early (StartsCopyOf c.args.columns.now) (g.R.Read.remaining c.args.input.now) _ _ c.in-Err.ensures.part

pub returns-then-is_err-clause-part : goal.returns-then-is_err-clause-part
returns-then-is_err-clause-part g c =
    let not_write = no_failed_write c.in-Err.fault (sym c.if-is_write.false ∙ c.is_write.ensures) in
    told_part (StartsCopyOf c.args.columns.now) (g.R.Read.remaining c.args.input.now) _ _ _
    (c.in-Err.ensures.whole not_write)
    (err_of c.write_fault.result _ c.write_fault.ensures.err c.if-is_err.ensures.value)

pub returns-clause-whole : goal.returns-clause-whole
returns-clause-whole g c = λ not_write.
    told (StartsCopyOf c.args.columns.now) (g.R.Read.remaining c.args.input.now) _ _ _
    (c.in-Err.ensures.whole not_write)
    (ok_of c.write_fault.result _ c.write_fault.ensures.ok c.if-is_err.ensures.value)

pub returns-clause-part : goal.returns-clause-part
returns-clause-part g c =
    let not_write = no_failed_write c.in-Err.fault (sym c.if-is_write.false ∙ c.is_write.ensures) in
    let line = ok_of c.write_fault.result _ c.write_fault.ensures.ok c.if-is_err.ensures.value in
    told_part (StartsCopyOf c.args.columns.now) (g.R.Read.remaining c.args.input.now) _ _ _
    (c.in-Err.ensures.whole not_write) (all_of IsFaultLine _ _ line)

pub returns-clause-stops : goal.returns-clause-stops
returns-clause-stops g c = λ not_write.
    told (λ bytes lines. StopsAfter c.args.columns.now bytes lines c.in-Err.fault)
    (g.R.Read.remaining c.args.input.now) _ _ _ (c.in-Err.ensures.stops not_write)
    (ok_of c.write_fault.result _ c.write_fault.ensures.ok c.if-is_err.ensures.value)
