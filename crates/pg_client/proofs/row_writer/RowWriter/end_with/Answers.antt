-- What the proof of `end_with` answers by hand.
use Rattle.std.proofs.Common.{Err, refl, rules, subst}
use Rattle.pg_client.proofs.ColumnWrites.{row_refused, row_written}
use Rattle.pg_client.specs.ToColumns.{WritesRow}
use Rattle.pg_client.proofs.row_writer.RowWriter.end_with.Goals as goal

pub returns-in-Ok : goal.returns-in-Ok
returns-in-Ok g c = λ before cells h.
    let wires = g.T.Columns.ToColumns.wires (g.T.ToRow.inside c.args.values.now) in
    let types = c.args.types.now in
    subst (λ items. WritesRow wires c.args.target types before cells items c.finish.result) (search rules)
    (row_written wires c.args.target types before cells c.push_row.new.row _ c.finish.result _
    (λ all w. c.finish.ensures c.args.target types before all w) (c.in-Ok.ensures.writes c.args.target types before cells
    (record { target_is = refl; types_are = refl; has = h })))

pub returns-in-Err : goal.returns-in-Err
returns-in-Err g c = λ before cells h.
    let wires = g.T.Columns.ToColumns.wires (g.T.ToRow.inside c.args.values.now) in
    let types = c.args.types.now in
    subst (λ items. WritesRow wires c.args.target types before cells items (Err c.in-Err.fault)) (search rules)
    (row_refused wires c.args.target types before cells c.push_row.new.row _ c.in-Err.fault
    (λ all w. c.cancel.ensures c.args.target types before all w) (c.in-Err.ensures.writes c.args.target types before cells
    (record { target_is = refl; types_are = refl; has = h })))
