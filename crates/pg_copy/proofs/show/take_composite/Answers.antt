-- What the proof of `take_composite` answers by hand.
use Rattle.std.proofs.lemmas.Result.{err_from_is_err_and}
use Rattle.pg_copy.proofs.RecordFaults.{record_refused}
use Rattle.pg_copy.proofs.show.take_composite.Goals as goal

pub returns-in_err-push_record-clause-err : goal.returns-in_err-push_record-clause-err
returns-in_err-push_record-clause-err c =
    let p = err_from_is_err_and c.from_residual-in_err-push_record.result c.from_residual-in_err-push_record.ensures.1 in
    λ ty. rw (p.1, p.2) (record_refused c.args.row.now.now c.take_bytes.new.row.now _ _
    c.in-Some.is c.in_ok-cell.ensures.ok c.in_err-push_record.field-0.0 c.args.fields.now
    c.in_err-push_record.ensures.err ty)
