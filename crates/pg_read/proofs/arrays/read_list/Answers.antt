-- What the proof of `read_list` answers by hand.
use Rattle.std.proofs.Common.{Vec, Global}
use Rattle.std.proofs.lemmas.Result.{err_from_is_err_and}
use Rattle.pg_types.specs.Content.{content}
use Rattle.pg_read.proofs.ListSteps.{list_stops}
use Rattle.pg_read.proofs.arrays.read_list.Goals as goal

pub returns-in_err-values : goal.returns-in_err-values
returns-in_err-values g c =
    let p = err_from_is_err_and c.from_residual-in_err-values.result c.from_residual-in_err-values.ensures.1 in
    let run = rw (c.frames-frames.ensures, c.len.ensures) at c.in_err-values.ensures.run in
    rw (p.1, p.2) (list_stops (λ (v : Vec g.row.T.Denot Global). v.items)
    (g.T.FromSql.reads (content c.args.element.now)) c.args.raw.now c.in_ok-cells.cells
    c.in_ok-cells.ensures.outcome c.read_values.new.buf.now c.in_err-values.field-0.0 run)
