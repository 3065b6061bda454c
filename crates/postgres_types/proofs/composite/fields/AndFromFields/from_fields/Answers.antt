-- What the proof of `from_fields` answers by hand.
use Rattle.std.proofs.Common.{Err}
use Rattle.std.proofs.lemmas.Result.{err_from_is_err_and}
use Rattle.pg_types.specs.Content.{content}
use Rattle.pg_types.specs.Faults.{refusal_of}
use Rattle.postgres_types.proofs.RecordSteps.{and_others_refused, and_read, and_refused}
use Rattle.postgres_types.proofs.RecordSteps.{field_takes_none, others_take_none}
use Rattle.postgres_types.proofs.composite.fields.AndFromFields.from_fields.Goals as goal

pub returns-in_err-value-clause-outcome : goal.returns-in_err-value-clause-outcome
returns-in_err-value-clause-outcome g c =
    let p = err_from_is_err_and c.from_residual.result c.from_residual.ensures.1 in
    rw (p.1, p.2) (and_refused g.A.FromSql.reads g.A.FromSql.memory_free g.B.FromFields.reads c.args.raw.now
    c.read_field.new.buf.now c.args.fields.now c.in-Some.fields.now c.in-Some.field.now c.type_.result.now
    c.in-Some.ensures.cases.0 c.type_.ensures c.in_err-value.field-0.0 c.in_err-value.ensures)

pub returns-in_err-others-clause-outcome : goal.returns-in_err-others-clause-outcome
returns-in_err-others-clause-outcome g c =
    let p = err_from_is_err_and c.from_residual-in_err-others.result c.from_residual-in_err-others.ensures.1 in
    rw (p.1, p.2) (and_others_refused g.A.FromSql.reads g.A.FromSql.memory_free g.B.FromFields.reads c.args.raw.now
    c.read_field.new.buf.now c.args.fields.now c.in-Some.fields.now c.in-Some.field.now c.type_.result.now
    c.in-Some.ensures.cases.0 c.type_.ensures c.in_ok-value.value c.in_ok-value.ensures
    (refusal_of c.in_err-others.field-0.0) c.in_err-others.ensures.outcome)

pub returns-clause-outcome : goal.returns-clause-outcome
returns-clause-outcome g c =
    and_read g.A.FromSql.reads g.A.FromSql.memory_free g.B.FromFields.reads c.args.raw.now
    c.read_field.new.buf.now c.args.fields.now c.in-Some.fields.now c.in-Some.field.now c.type_.result.now
    c.in-Some.ensures.cases.0 c.type_.ensures c.in_ok-value.value c.in_ok-value.ensures c.in_ok-others.others
    c.in_ok-others.ensures.outcome

pub returns-in_err-value-clause-never_memory : goal.returns-in_err-value-clause-never_memory
returns-in_err-value-clause-never_memory g c free =
    let p = err_from_is_err_and c.from_residual.result c.from_residual.ensures.1 in
    rw (p.1, p.2) (field_takes_none (g.A.FromSql.reads (content c.type_.result.now)) g.A.FromSql.memory_free
    g.B.FromFields.memory_free c.read_field.new.buf.now _ c.args.raw.now (Err c.in_err-value.field-0.0) free
    c.in_err-value.ensures)

pub returns-in_err-others-clause-never_memory : goal.returns-in_err-others-clause-never_memory
returns-in_err-others-clause-never_memory g c free =
    let p = err_from_is_err_and c.from_residual-in_err-others.result c.from_residual-in_err-others.ensures.1 in
    rw (p.1, p.2) (c.in_err-others.ensures.never_memory
    (others_take_none (g.A.FromSql.reads (content c.type_.result.now)) g.A.FromSql.memory_free
    g.B.FromFields.memory_free c.read_field.new.buf.now _ c.args.raw.now c.in_ok-value.value free
    c.in_ok-value.ensures))
