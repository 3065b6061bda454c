-- What the proof of `push_field` answers by hand.
use Rattle.std.proofs.Common.{◌+◌, subst}
use Rattle.pg_copy.proofs.RefusalLaws.{cell_fault, value_refused_by}
use Rattle.pg_copy.specs.Lines.{values_in}
use Rattle.pg_copy.specs.Refusals.{IsValueFault, RefusesAt, next_row}
use Rattle.pg_copy.specs.declared.copy_fault.Row.TheVariants.{Tuple}
use Rattle.postgres_types.specs.Content.{content}
use Rattle.pg_copy.proofs.read.Reading.push_field.Goals as goal

pub returns-in-Err-clause-refused : goal.returns-in-Err-clause-refused
returns-in-Err-clause-refused c =
    let column = c.args.column.now in
    let fields = c.args.fields.now.now in
    let fault = c.in-Err.fault in
    let named = subst (λ n. IsValueFault (Tuple n) (c.args.place + 1) column fault c.value_fault.result)
    c.saturating_add-number.ensures c.value_fault.ensures.names in
    value_refused_by (next_row c.args.self.now.row) (c.args.place + 1) column fault (RefusesAt column fields)
    c.value_fault.result named
    (cell_fault (values_in column) (content column.ty) fields fault c.in-Err.ensures.err)
