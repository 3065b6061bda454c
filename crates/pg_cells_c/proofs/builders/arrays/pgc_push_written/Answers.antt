-- What the proof of `pgc_push_written` answers by hand.
use Rattle.std.specs.Prelude.{Some}
use Rattle.pg_base.specs.Cells.{frame}
use Rattle.pg_base.proofs.Concat.{long_frame}
use Rattle.pg_cells_c.proofs.PushSteps.{no_written}
use Rattle.pg_cells_c.proofs.builders.arrays.pgc_push_written.Goals as goal

pub returns-then-len-gt-MAX_LEN : goal.returns-then-len-gt-MAX_LEN
returns-then-len-gt-MAX_LEN c =
    no_written (λ cell. frame (Some cell)) 4 c.args.len c.args.builder.now c.args.out.now c.if-len-gt-MAX_LEN.true
    long_frame
