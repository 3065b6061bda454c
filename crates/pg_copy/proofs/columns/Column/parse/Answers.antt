-- What the proof of `Column::parse` answers by hand.
use Rattle.std.proofs.Common.{inr, refl}
use Rattle.pg_copy.proofs.ColumnLaws.{all_typed}
use Rattle.pg_copy.specs.Words.{pieces}
use Rattle.pg_copy.proofs.columns.Column.parse.Goals as goal

pub returns-in-Some-clause-typed : goal.returns-in-Some-clause-typed
returns-in-Some-clause-typed c =
    let fields = c.in_ok-parse_fields in
    inr (refl, refl, all_typed (pieces c.in-Some.fields.now) fields.field-0.items fields.ensures.ok)
