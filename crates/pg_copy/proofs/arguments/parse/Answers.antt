-- What the proof of `parse` answers by hand.
use Rattle.std.proofs.Common.{◌≡◌, ◌<◌, ◌≤◌, ap, arith, false, length, rules, subst, ◌∙◌}
use Rattle.std.proofs.lemmas.Grind.{common_steps}
use Rattle.std.proofs.lemmas.List.{length-map}
use Rattle.std.specs.List.{AllZip}
use Rattle.pg_copy.proofs.ArgumentLaws.{as_many}
use Rattle.pg_copy.specs.Arguments.{has_option, max_columns, texts_of, types_of_words}
use Rattle.pg_copy.specs.ColumnTypes.{IsColumnOf}
use Rattle.pg_copy.proofs.arguments.parse.Goals as goal

pub returns-clause-ok : goal.returns-clause-ok
returns-clause-ok c =
    let words = c.args.words.now in
    let plain : has_option words ≡ false = search rules in
    let types = c.in_ok-types.types.items in
    let columns = c.in_ok-columns_of.field-0.items in
    let same : texts_of c.as_slice.result.now ≡ types_of_words words =
    ap texts_of c.as_slice.ensures.value ∙ c.in_ok-types.ensures in
    let all = subst (λ t. AllZip IsColumnOf t columns) same c.in_ok-columns_of.ensures.ok in
    let size : length columns ≡ length types =
    as_many (texts_of types) columns
    (subst (λ t. AllZip IsColumnOf (texts_of t) columns) c.as_slice.ensures.value c.in_ok-columns_of.ensures.ok)
    ∙ length-map types (λ t. t.now) in
    let some : 0 < length columns = grind (arith, common_steps, size) in
    let few : length columns ≤ max_columns = grind (arith, common_steps, size) in
    (plain, all, some, few)
