-- What the proof of `from_sql` answers by hand.
use Rattle.std.proofs.Common.{Ok, Err, IfSome, subst, sym}
use Rattle.std.proofs.lemmas.Option.{IfSome_then}
use Rattle.std.proofs.lemmas.Result.{err_from_is_err_and}
use Rattle.pg_types.specs.Content.{content, kind_of}
use Rattle.pg_types.specs.Faults.{refusal_of}
use Rattle.postgres_types.proofs.RecordSteps.{count_passed, count_refused, number_passed, number_takes_none}
use Rattle.postgres_types.specs.Records.{CountThen, fields_of_kind}
use Rattle.postgres_types.proofs.composite.record.CompositeFromSql.from_sql.Goals as goal

pub returns-in_err-read_field_count-clause-outcome : goal.returns-in_err-read_field_count-clause-outcome
returns-in_err-read_field_count-clause-outcome g c =
    let reads = g.T.Fields.FromFields.reads (fields_of_kind (kind_of (content c.args.ty.now))) in
    let raw = c.args.raw.now in
    let fault = c.in_err-read_field_count.field-0.0 in
    let p = err_from_is_err_and c.from_residual.result c.from_residual.ensures.1 in
    rw (p.1, p.2) (subst (λ n. IfSome (refusal_of fault) (λ r. CountThen n reads raw (Err r)))
    c.fields_of-fields.ensures.count
    (count_refused _ reads raw c.read_field_count.new.buf.now fault c.in_err-read_field_count.ensures))

pub returns-in_err-row-clause-outcome : goal.returns-in_err-row-clause-outcome
returns-in_err-row-clause-outcome g c =
    let reads = g.T.Fields.FromFields.reads (fields_of_kind (kind_of (content c.args.ty.now))) in
    let raw = c.args.raw.now in
    let rest = c.read_field_count.new.buf.now in
    let fault = c.in_err-row.field-0.0 in
    let p = err_from_is_err_and c.from_residual-in_err-row.result c.from_residual-in_err-row.ensures.1 in
    let refused = subst (λ fs. IfSome (refusal_of fault) (λ r. g.T.Fields.FromFields.reads fs rest (Err r)))
    c.fields_of-fields.ensures.fields c.in_err-row.ensures.outcome in
    rw (p.1, p.2) (subst (λ n. IfSome (refusal_of fault) (λ r. CountThen n reads raw (Err r)))
    c.fields_of-fields.ensures.count
    (IfSome_then (refusal_of fault) refused
    (λ r. count_passed _ reads raw rest (Err r) c.in_ok-read_field_count.ensures)))

pub returns-clause-outcome : goal.returns-clause-outcome
returns-clause-outcome g c =
    let reads = g.T.Fields.FromFields.reads (fields_of_kind (kind_of (content c.args.ty.now))) in
    let raw = c.args.raw.now in
    let rest = c.read_field_count.new.buf.now in
    let read = subst (λ fs. g.T.Fields.FromFields.reads fs rest (Ok c.in_ok-row.row)) c.fields_of-fields.ensures.fields
    c.in_ok-row.ensures.outcome in
    subst (λ n. CountThen n reads raw (Ok (g.T.Record.inside c.from_row.result))) c.fields_of-fields.ensures.count
    (count_passed _ reads raw rest (Ok (g.T.Record.inside c.from_row.result)) c.in_ok-read_field_count.ensures
    (subst (λ v. reads rest (Ok v)) (sym c.from_row.ensures) read))

pub returns-in_err-read_field_count-clause-never_memory : goal.returns-in_err-read_field_count-clause-never_memory
returns-in_err-read_field_count-clause-never_memory g c free =
    let p = err_from_is_err_and c.from_residual.result c.from_residual.ensures.1 in
    rw (p.1, p.2) (number_takes_none _ c.args.raw.now c.read_field_count.new.buf.now
    (Err c.in_err-read_field_count.field-0.0) c.in_err-read_field_count.ensures)

pub returns-in_err-row-clause-never_memory : goal.returns-in_err-row-clause-never_memory
returns-in_err-row-clause-never_memory g c free =
    let p = err_from_is_err_and c.from_residual-in_err-row.result c.from_residual-in_err-row.ensures.1 in
    rw (p.1, p.2) (c.in_err-row.ensures.never_memory (subst g.T.Fields.FromFields.memory_free
    (sym (number_passed _ c.args.raw.now c.read_field_count.new.buf.now c.in_ok-read_field_count.ensures)) free))
