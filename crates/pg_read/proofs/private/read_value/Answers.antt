-- What the proof of `read_value` answers by hand.
use Rattle.std.proofs.Common.{None, Some}
use Rattle.pg_types.specs.Content.{content}
use Rattle.pg_read.proofs.FirstFrames.{frame_read}
use Rattle.pg_read.proofs.private.read_value.Goals as goal

pub returns-in-Some : goal.returns-in-Some
returns-in-Some g c =
    let taken = rw c.in-Some.is at c.in_ok-raw.ensures in
    frame_read (g.T.FromSql.reads (content c.args.type_.now)) g.T.FromSql.memory_free c.args.buf.now.now
    c.take_cell.new.buf.now taken.0 (Some c.in-Some.raw.now) c.from_sql.result taken.1 taken.2
    c.from_sql.ensures.outcome c.from_sql.ensures.never_memory

pub returns-in-None : goal.returns-in-None
returns-in-None g c =
    let taken = rw c.in-None.is at c.in_ok-raw.ensures in
    frame_read (g.T.FromSql.reads (content c.args.type_.now)) g.T.FromSql.memory_free c.args.buf.now.now
    c.take_cell.new.buf.now taken.0 None c.from_sql_null.result taken.1 taken.2
    c.from_sql_null.ensures.outcome c.from_sql_null.ensures.never_memory
