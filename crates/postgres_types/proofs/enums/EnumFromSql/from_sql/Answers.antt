-- What the proof of `from_sql` answers by hand.
use Rattle.std.proofs.Common.{IsUtf8, sym, subst}
use Rattle.postgres_types.proofs.EnumLabels.{not_a_label}
use Rattle.postgres_types.proofs.enums.EnumFromSql.from_sql.Goals as goal

pub returns-clause-outcome : goal.returns-clause-outcome
returns-clause-outcome g c =
    let text = c.in_ok-text_from_sql.ensures.outcome in
    let none = rw c.labels.ensures at c.in_default.ensures.none in
    rw c.user.ensures (not_a_label g.T.EnumType.labels c.args.raw.now (subst IsUtf8 (sym text.1) text.0) none)
