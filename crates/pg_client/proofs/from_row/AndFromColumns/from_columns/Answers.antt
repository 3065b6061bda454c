-- What the proof of `from_columns` answers by hand.
use Rattle.std.proofs.Common.{refl, slice_get}
use Rattle.std.proofs.lemmas.Result.{err_from_is_err_and}
use Rattle.pg_client.proofs.ColumnSteps.{column_refused, column_takes_none, columns_read, columns_refused}
use Rattle.pg_client.proofs.ColumnSteps.{others_take_none}
use Rattle.pg_client.specs.Rows.{columns_of, taken_of}
use Rattle.pg_client.proofs.from_row.AndFromColumns.from_columns.Goals as goal

pub returns-in_err-value-clause-outcome : goal.returns-in_err-value-clause-outcome
returns-in_err-value-clause-outcome g c =
    let p = err_from_is_err_and c.from_residual.result c.from_residual.ensures.1 in
    rw (p.1, p.2) (column_refused g.B.FromColumns.reads c.args.row c.next.new.self g.A.FromSql.accepted
    g.A.FromSql.reads g.A.FromSql.memory_free _ c.in_err-value.field-0.0
    (slice_get (columns_of c.args.row) (taken_of c.args.row)) c.in_err-value.ensures.column
    c.in_err-value.ensures.no_column)

pub returns-in_err-others-clause-outcome : goal.returns-in_err-others-clause-outcome
returns-in_err-others-clause-outcome g c =
    let p = err_from_is_err_and c.from_residual-in_err-others.result c.from_residual-in_err-others.ensures.1 in
    rw (p.1, p.2) (columns_refused g.B.FromColumns.reads c.args.row c.next.new.self g.A.FromSql.accepted
    g.A.FromSql.reads g.A.FromSql.memory_free _ c.in_ok-value.value c.in_err-others.field-0.0
    (slice_get (columns_of c.args.row) (taken_of c.args.row)) c.in_ok-value.ensures.column
    c.in_ok-value.ensures.no_column c.in_err-others.ensures.outcome)

pub returns-clause-outcome : goal.returns-clause-outcome
returns-clause-outcome g c =
    columns_read g.B.FromColumns.reads c.args.row c.next.new.self g.A.FromSql.accepted g.A.FromSql.reads
    g.A.FromSql.memory_free _ c.in_ok-value.value c.in_ok-others.others
    (slice_get (columns_of c.args.row) (taken_of c.args.row)) c.in_ok-value.ensures.column
    c.in_ok-value.ensures.no_column c.in_ok-others.ensures.outcome

pub returns-in_err-value-clause-never_memory : goal.returns-in_err-value-clause-never_memory
returns-in_err-value-clause-never_memory g c free =
    let p = err_from_is_err_and c.from_residual.result c.from_residual.ensures.1 in
    rw (p.1, p.2) (column_takes_none g.B.FromColumns.reads c.args.row c.next.new.self g.A.FromSql.accepted
    g.A.FromSql.reads g.A.FromSql.memory_free g.B.FromColumns.memory_free free _ c.in_err-value.field-0.0 _ refl
    c.in_err-value.ensures.column c.in_err-value.ensures.no_column)

pub returns-in_err-others-clause-never_memory : goal.returns-in_err-others-clause-never_memory
returns-in_err-others-clause-never_memory g c free =
    let p = err_from_is_err_and c.from_residual-in_err-others.result c.from_residual-in_err-others.ensures.1 in
    rw (p.1, p.2) (c.in_err-others.ensures.never_memory (others_take_none g.B.FromColumns.reads c.args.row
    c.next.new.self g.A.FromSql.accepted g.A.FromSql.reads g.A.FromSql.memory_free g.B.FromColumns.memory_free free _
    c.in_ok-value.value _ refl c.in_ok-value.ensures.column c.in_ok-value.ensures.no_column))
