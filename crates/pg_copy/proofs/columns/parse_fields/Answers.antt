-- What the proof of `parse_fields` answers by hand.
use Rattle.std.proofs.Common.{◌≡◌, ◌∷◌, ap, ◌∙◌}
use Rattle.std.proofs.lemmas.Result.{err_from_is_err_and}
use Rattle.pg_copy.proofs.ColumnLaws.{fails_in_memory, fails_later, taken_all, taken_more}
use Rattle.pg_copy.specs.ColumnTypes.{IsFieldOf}
use Rattle.pg_copy.specs.Words.{pieces, pieces_of_rest}
use Rattle.pg_copy.proofs.columns.parse_fields.Goals as goal

pub returns-in_err-push-clause-err : goal.returns-in_err-push-clause-err
returns-in_err-push-clause-err c =
    let text = c.split_at_comma.result.0.now in
    let after = pieces_of_rest c.split_at_comma.result.1 in
    let rest = pieces_of_rest c.loop-rest.rest in
    let is : rest ≡ text ∷ after = ap pieces_of_rest c.in-Some.is ∙ c.split_at_comma.ensures.parts in
    let p = err_from_is_err_and c.from_residual-in_err-push.result c.from_residual-in_err-push.ensures.1 in
    rw p.1 (c.loop-rest.invariant.refused p.0 (fails_in_memory rest after text p.0 is p.2))

pub loop-rest-preserved : goal.loop-rest-preserved
loop-rest-preserved c =
    let text = c.split_at_comma.result.0.now in
    let after = pieces_of_rest c.split_at_comma.result.1 in
    let rest = pieces_of_rest c.loop-rest.rest in
    let is : rest ≡ text ∷ after = ap pieces_of_rest c.in-Some.is ∙ c.split_at_comma.ensures.parts in
    let field = c.in_ok-parse_field.field-0 in
    let l = c.loop-rest in
    record {
      taken = taken_more IsFieldOf (pieces c.args.text.now) rest after text l.fields.items c.push.new.self.items field
          is
          l.invariant.taken c.in_ok-parse_field.ensures.ok c.in_ok-push.ensures.items;
      refused = λ fault later. l.invariant.refused fault
          (fails_later rest after text field fault is c.in_ok-parse_field.ensures.ok later);
    }

pub returns-clause-ok : goal.returns-clause-ok
returns-clause-ok c =
    taken_all IsFieldOf (pieces c.args.text.now) (pieces_of_rest c.loop-rest.rest) c.loop-rest.fields.items
    (ap pieces_of_rest c.in_default.is) c.loop-rest.invariant.taken
