-- What the proof of `IpCidrFromSql::from_sql` answers by hand.
use Rattle.pg_read.proofs.Refusals.{cidr_refused}
use Rattle.pg_read.proofs.network.IpCidrFromSql.from_sql.Goals as goal

pub returns-in_err-inet-clause-outcome : goal.returns-in_err-inet-clause-outcome
returns-in_err-inet-clause-outcome c =
    cidr_refused c.args.raw.now c.in_err-inet.field-0.0 c.from_residual.result c.from_residual.ensures.1
    c.in_err-inet.ensures.outcome
