-- What the proof of `push_line` answers by hand.
use Rattle.std.proofs.Common.{◌≡◌, ◌+◌, ◌++◌, ◌∙◌, [], ◌∷◌, arith, length-take, refl, subst, take}
use Rattle.std.proofs.lemmas.Grind.{common_steps}
use Rattle.pg_copy.proofs.LineLaws.{TakesFields, next_field, no_field}
use Rattle.pg_copy.proofs.RefusalLaws.{row_refused}
use Rattle.pg_tuples.proofs.HeaderLaws.{answered}
use Rattle.pg_copy.specs.Refusals.{RefusesAt, RefusesRow, UnlessMemory, ValueRefused, next_row}
use Rattle.pg_copy.specs.declared.copy_fault.CopyFault.TheVariants.{Memory}
use Rattle.pg_copy.proofs.read.Reading.push_line.Goals as goal

pub columns-init : goal.columns-init
columns-init c = (refl, refl, refl, no_field c.args.fields.now.now c.args.self.now.lines.items)

pub columns-preserved : goal.columns-preserved
columns-preserved c =
    let columns = c.args.self.now.columns.now in
    let place = c.columns.place in
    let column = c.index-columns-place.result in
    let one_more : take place columns ++ column ∷ [] ≡ take (place + 1) columns = grind (arith, common_steps) in
    let count = length-take place columns in
    let fields = next_field (take place columns) column place _ _ _ _ _ _ _ (omega (arith, count, c.columns-test.true))
    c.columns.invariant.3 c.in_ok-push_tab.ensures.ok c.in_ok-push_field.ensures.ok in (
      c.push_field.ensures.columns ∙ c.push_tab.ensures.columns ∙ c.columns.invariant.0,
      c.push_field.ensures.place ∙ c.push_tab.ensures.place ∙ c.columns.invariant.1,
      c.push_field.ensures.row ∙ c.push_tab.ensures.row ∙ c.columns.invariant.2,
      subst (λ x. TakesFields x c.args.fields.now.now c.push_field.new.fields.now c.args.self.now.lines.items
          c.push_field.new.self.lines.items) one_more fields,
    )

pub returns-in_err-push_field-clause-refused : goal.returns-in_err-push_field-clause-refused
returns-in_err-push_field-clause-refused c =
    let columns = c.args.self.now.columns.now in
    let place = c.columns.place in
    let row = next_row c.args.self.now.row in
    let f = c.in_err-push_field.field-0.0 in
    let fields = c.columns.fields.now in
    let refused = subst (λ column. UnlessMemory (ValueRefused row (place + 1) column (RefusesAt column fields)) f)
    c.index-columns-place.is
    (subst (λ count. UnlessMemory (ValueRefused (next_row count) (place + 1) c.index-columns-place.result
    (RefusesAt c.index-columns-place.result fields)) f) (c.push_tab.ensures.row ∙ c.columns.invariant.2)
    c.in_err-push_field.ensures.refused) in
    answered (UnlessMemory (RefusesRow row columns c.args.fields.now.now)) c.from_residual-in_err-push_field.result f
    c.from_residual-in_err-push_field.ensures.1
    (row_refused row columns place c.index-columns-place.result c.args.fields.now.now c.requires.0 fields
    c.args.self.now.lines.items c.columns.self.lines.items f c.columns-test.true c.requires.1
    c.columns.invariant.3 refused)

pub returns-in_err-push-clause-refused : goal.returns-in_err-push-clause-refused
returns-in_err-push-clause-refused c =
    answered (UnlessMemory (RefusesRow (next_row c.args.self.now.row) c.args.self.now.columns.now
    c.args.fields.now.now))
    c.from_residual-in_err-push.result Memory c.from_residual-in_err-push.ensures.1 tt
