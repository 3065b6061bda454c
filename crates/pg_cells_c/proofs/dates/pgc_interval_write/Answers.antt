-- What the proof of `pgc_interval_write` answers by hand.
use Rattle.std.specs.Prelude.{◌≡◌}
use Rattle.std.specs.Int.{w32, w64}
use Rattle.std.proofs.Common.{rules}
use Rattle.pg_base.specs.Cells.{be}
use Rattle.pg_cells_c.proofs.WritingSteps.{interval_written}
use Rattle.pg_cells_c.proofs.dates.pgc_interval_write.Goals as goal

pub returns : goal.returns
returns c =
    let first : c.to_be_bytes.result ≡ be w64 c.args.microseconds = search rules in
    let second : c.to_be_bytes-2.result ≡ be w32 c.args.days = search rules in
    let third : c.to_be_bytes-3.result ≡ be w32 c.args.months = search rules in
    interval_written c.to_be_bytes.result c.to_be_bytes-2.result c.to_be_bytes-3.result c.args.microseconds c.args.days
    c.args.months c.args.out.now c.write_parts.new.out c.write_parts.result c.write_parts.ensures first second third
