-- What the proof of `read_first` answers by hand.
use Rattle.std.proofs.Common.{Vec, Global, ap}
use Rattle.std.proofs.lemmas.Result.{err_from_is_err_and}
use Rattle.pg_types.specs.Content.{content}
use Rattle.pg_types.specs.Faults.{refusal_of}
use Rattle.pg_read.proofs.FirstValues.{first_stops, first_unkept}
use Rattle.pg_read.proofs.private.read_first.Goals as goal

pub returns-in_err-first-clause-stops : goal.returns-in_err-first-clause-stops
returns-in_err-first-clause-stops g c =
    let p = err_from_is_err_and c.from_residual.result c.from_residual.ensures.1 in
    rw (p.1, p.2) (first_stops (g.T.FromSql.reads (content c.args.type_.now)) g.T.FromSql.memory_free
    c.args.buf.now.now c.read_value.new.buf.now (λ (v : Vec g.row.T.Denot Global). v.items) c.args.n c.requires.some
    c.holds_bytes.ensures c.in_err-first.field-0.0 c.in_err-first.ensures)

pub returns-in_err-values-clause-stops : goal.returns-in_err-values-clause-stops
returns-in_err-values-clause-stops g c =
    let p = err_from_is_err_and c.from_residual-in_err-values.result c.from_residual-in_err-values.ensures.1 in
    rw p.1 (first_unkept (g.T.FromSql.reads (content c.args.type_.now)) g.T.FromSql.memory_free c.args.buf.now.now
    c.read_value.new.buf.now (λ (v : Vec g.row.T.Denot Global). v.items) c.args.n c.requires.some
    c.holds_bytes.ensures p.0 c.in_ok-first.first c.in_ok-first.ensures (ap refusal_of p.2))
