-- What the proof of `parse_field` answers by hand.
use Rattle.std.proofs.lemmas.Result.{MatchResult-weaker}
use Rattle.pg_copy.proofs.ColumnLaws.{field_fault}
use Rattle.pg_copy.proofs.columns.parse_field.Goals as goal

pub returns-in-None-clause-err : goal.returns-in-None-clause-err
returns-in-None-clause-err c =
    let named = rw c.in-Some.is at c.after_field_name.ensures in
    let plain = rw c.in-None.is at c.fields.ensures in
    let name = c.parse-name.result in
    MatchResult-weaker c.parse.result c.parse.ensures.err (λ field ok. tt)
    (λ fault own. field_fault c.args.text.now c.in-Some.ty.now name.name.now name.is_array fault named
    c.parse-name.ensures plain own)
