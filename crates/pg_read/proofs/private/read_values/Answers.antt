-- What the proof of `read_values` answers by hand.
use Rattle.std.proofs.Common.{arith, ◌∷◌, ◌++◌, [], Vec, Global, None, Some, Ok, Err, ap, length-append, refl}
use Rattle.std.proofs.lemmas.Result.{err_from_is_err_and}
use Rattle.pg_base.specs.Cells.{Cell}
use Rattle.pg_types.specs.Content.{content}
use Rattle.pg_types.specs.Faults.{refusal_of}
use Rattle.pg_types.specs.declared.fault.Fault.TheVariants.{Size}
use Rattle.pg_read.proofs.RunFrames.{run_frames}
use Rattle.pg_read.proofs.RunSteps.{read_next, run_ends, run_stops, run_truncated, run_unkept, spelled_next}
use Rattle.pg_read.proofs.private.read_values.Goals as goal
use Rattle.pg_read.proofs.private.read_values.Goals.{in-None+in_ok-from_sql_null-in-None+in_ok-push-in-None}
use Rattle.pg_read.proofs.private.read_values.Goals.{in-Some+in_ok-from_sql-in-Some+in_ok-push-in-Some}

pub returns-in_default-clause-run : goal.returns-in_default-clause-run
returns-in_default-clause-run g c =
    let so_far = c.loop.invariant in
    let truncated = c.in_default.ensures in
    run_truncated (λ (v : Vec g.row.T.Denot Global). v.items) (g.T.FromSql.reads (content c.args.type_.now))
    c.args.buf.now.now so_far.0 c.loop.values.items c.loop.buf.now so_far.2
    c.args.n Size c.take_cell.new.buf.now (omega (arith, so_far.1)) truncated.0 refl truncated.2

pub returns-in_default-clause-frames : goal.returns-in_default-clause-frames
returns-in_default-clause-frames g c =
    let k : g.claim c.lifetimes = assumption c.well_formed in
    let single = (g.met.T.FromSql c.lifetimes k).single (content c.args.type_.now) c.requires in
    run_frames (λ (v : Vec g.row.T.Denot Global). v.items) g.T.FromSql.same
    (g.T.FromSql.reads (content c.args.type_.now)) single c.args.buf.now.now
    c.take_cell.new.buf.now c.args.n (Err Size) (returns-in_default-clause-run g c)

pub returns-in_err-from_sql-in-Some-clause-run : goal.returns-in_err-from_sql-in-Some-clause-run
returns-in_err-from_sql-in-Some-clause-run g c =
    let p = err_from_is_err_and c.from_residual-in_err-from_sql-in-Some.result c.from_residual-in_err-from_sql-in-Some.ensures.1 in
    let so_far = c.loop.invariant in
    let taken = rw c.in-Some.is at c.in-Ok.ensures in
    rw (p.1, p.2) (run_stops (λ (v : Vec g.row.T.Denot Global). v.items) (g.T.FromSql.reads (content c.args.type_.now))
    c.args.buf.now.now so_far.0 c.loop.values.items c.loop.buf.now so_far.2
    c.args.n c.in_err-from_sql-in-Some.field-0.0 c.take_cell.new.buf.now
    (omega (arith, so_far.1)) c.holds_bytes.ensures taken.0 (Some c.in-Some.raw.now) taken.1 taken.2
    c.in_err-from_sql-in-Some.ensures.outcome)

pub returns-in_err-from_sql-in-Some-clause-frames : goal.returns-in_err-from_sql-in-Some-clause-frames
returns-in_err-from_sql-in-Some-clause-frames g c =
    let k : g.claim c.lifetimes = assumption c.well_formed in
    let single = (g.met.T.FromSql c.lifetimes k).single (content c.args.type_.now) c.requires in
    run_frames (λ (v : Vec g.row.T.Denot Global). v.items) g.T.FromSql.same
    (g.T.FromSql.reads (content c.args.type_.now)) single c.args.buf.now.now
    c.take_cell.new.buf.now c.args.n c.from_residual-in_err-from_sql-in-Some.result (returns-in_err-from_sql-in-Some-clause-run g c)

pub returns-in_err-push-in-Some-clause-run : goal.returns-in_err-push-in-Some-clause-run
returns-in_err-push-in-Some-clause-run g c =
    let p = err_from_is_err_and c.from_residual-in_err-push-in-Some.result c.from_residual-in_err-push-in-Some.ensures.1 in
    let reads = g.T.FromSql.reads (content c.args.type_.now) in
    let so_far = c.loop.invariant in
    let taken = rw c.in-Some.is at c.in-Ok.ensures in
    rw p.1 (run_unkept (λ (v : Vec g.row.T.Denot Global). v.items) reads c.args.buf.now.now so_far.0
    c.loop.values.items c.loop.buf.now so_far.2 c.args.n p.0 (Some c.in-Some.raw.now) c.take_cell.new.buf.now
    (spelled_next reads c.args.buf.now.now so_far.0 c.loop.values.items c.loop.buf.now so_far.2 taken.0
    (Some c.in-Some.raw.now) c.take_cell.new.buf.now taken.1 taken.2)
    (omega (arith, so_far.1)) c.holds_bytes.ensures (ap refusal_of p.2))

pub returns-in_err-from_sql_null-in-None-clause-run : goal.returns-in_err-from_sql_null-in-None-clause-run
returns-in_err-from_sql_null-in-None-clause-run g c =
    let p = err_from_is_err_and c.from_residual-in_err-from_sql_null-in-None.result c.from_residual-in_err-from_sql_null-in-None.ensures.1 in
    let so_far = c.loop.invariant in
    let taken = rw c.in-None.is at c.in-Ok.ensures in
    rw (p.1, p.2) (run_stops (λ (v : Vec g.row.T.Denot Global). v.items) (g.T.FromSql.reads (content c.args.type_.now))
    c.args.buf.now.now so_far.0 c.loop.values.items c.loop.buf.now so_far.2
    c.args.n c.in_err-from_sql_null-in-None.field-0.0 c.take_cell.new.buf.now
    (omega (arith, so_far.1)) c.holds_bytes.ensures taken.0 None taken.1 taken.2
    c.in_err-from_sql_null-in-None.ensures.outcome)

pub returns-in_err-from_sql_null-in-None-clause-frames : goal.returns-in_err-from_sql_null-in-None-clause-frames
returns-in_err-from_sql_null-in-None-clause-frames g c =
    let k : g.claim c.lifetimes = assumption c.well_formed in
    let single = (g.met.T.FromSql c.lifetimes k).single (content c.args.type_.now) c.requires in
    run_frames (λ (v : Vec g.row.T.Denot Global). v.items) g.T.FromSql.same
    (g.T.FromSql.reads (content c.args.type_.now)) single c.args.buf.now.now
    c.take_cell.new.buf.now c.args.n c.from_residual-in_err-from_sql_null-in-None.result (returns-in_err-from_sql_null-in-None-clause-run g c)

pub returns-in_err-push-in-None-clause-run : goal.returns-in_err-push-in-None-clause-run
returns-in_err-push-in-None-clause-run g c =
    let p = err_from_is_err_and c.from_residual-in_err-push-in-None.result c.from_residual-in_err-push-in-None.ensures.1 in
    let reads = g.T.FromSql.reads (content c.args.type_.now) in
    let so_far = c.loop.invariant in
    let taken = rw c.in-None.is at c.in-Ok.ensures in
    rw p.1 (run_unkept (λ (v : Vec g.row.T.Denot Global). v.items) reads c.args.buf.now.now so_far.0
    c.loop.values.items c.loop.buf.now so_far.2 c.args.n p.0 None c.take_cell.new.buf.now
    (spelled_next reads c.args.buf.now.now so_far.0 c.loop.values.items c.loop.buf.now so_far.2 taken.0
    None c.take_cell.new.buf.now taken.1 taken.2)
    (omega (arith, so_far.1)) c.holds_bytes.ensures (ap refusal_of p.2))

pub returns-in_err-values-clause-frames : goal.returns-in_err-values-clause-frames
returns-in_err-values-clause-frames g c =
    let k : g.claim c.lifetimes = assumption c.well_formed in
    let single = (g.met.T.FromSql c.lifetimes k).single (content c.args.type_.now) c.requires in
    let p = err_from_is_err_and c.from_residual.result c.from_residual.ensures.1 in
    run_frames (λ (v : Vec g.row.T.Denot Global). v.items) g.T.FromSql.same
    (g.T.FromSql.reads (content c.args.type_.now)) single c.args.buf.now.now
    c.read_first.new.buf.now c.args.n c.from_residual.result (rw (p.1, p.2) c.in_err-values.ensures.stops)

pub loop-preserved : goal.loop-preserved
loop-preserved g c =
    let reads = g.T.FromSql.reads (content c.args.type_.now) in
    let so_far = c.loop.invariant in
    elim c.match-cell.branch [
      | in-Some+in_ok-from_sql-in-Some+in_ok-push-in-Some w ↦
          let taken = rw w.in-Some.is at c.in-Ok.ensures in
          let cell : Cell = Some w.in-Some.raw.now in (
            so_far.0 ++ cell ∷ [],
            omega (arith, so_far.1, length-append so_far.0 (cell ∷ [])),
            rw
                (w.values-is, w.in_ok-push-in-Some.ensures.items) (read_next reads c.args.buf.now.now so_far.0
                c.loop.values.items c.loop.buf.now so_far.2 taken.0 cell c.take_cell.new.buf.now taken.1 taken.2
                w.in_ok-from_sql-in-Some.field-0 w.in_ok-from_sql-in-Some.ensures.outcome),
          )
      | in-None+in_ok-from_sql_null-in-None+in_ok-push-in-None w ↦
          let taken = rw w.in-None.is at c.in-Ok.ensures in
          let cell : Cell = None in (
            so_far.0 ++ cell ∷ [],
            omega (arith, so_far.1, length-append so_far.0 (cell ∷ [])),
            rw
                (w.values-is, w.in_ok-push-in-None.ensures.items) (read_next reads c.args.buf.now.now so_far.0
                c.loop.values.items c.loop.buf.now so_far.2 taken.0 cell c.take_cell.new.buf.now taken.1 taken.2
                w.in_ok-from_sql_null-in-None.field-0 w.in_ok-from_sql_null-in-None.ensures.outcome),
          )
    ]

pub returns-clause-run : goal.returns-clause-run
returns-clause-run g c =
    let so_far = c.loop.invariant in
    run_ends (λ (v : Vec g.row.T.Denot Global). v.items)
    (g.T.FromSql.reads (content c.args.type_.now)) c.args.buf.now.now c.args.n c.loop.values so_far.0 c.loop.buf.now
    (omega (arith, so_far.1)) so_far.2

pub returns-clause-frames : goal.returns-clause-frames
returns-clause-frames g c =
    let k : g.claim c.lifetimes = assumption c.well_formed in
    let single = (g.met.T.FromSql c.lifetimes k).single (content c.args.type_.now) c.requires in
    run_frames (λ (v : Vec g.row.T.Denot Global). v.items) g.T.FromSql.same
    (g.T.FromSql.reads (content c.args.type_.now)) single c.args.buf.now.now
    c.loop.buf.now c.args.n (Ok c.loop.values) (returns-clause-run g c)
