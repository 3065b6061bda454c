-- What the proof of `pgc_push_written_field` answers by hand.
use Rattle.std.specs.Prelude.{Some}
use Rattle.pg_cells_c.proofs.PushSteps.{long_field, no_written}
use Rattle.pg_cells_c.specs.Builders.{field_bytes}
use Rattle.pg_cells_c.proofs.builders.records.pgc_push_written_field.Goals as goal

pub returns-then-len-gt-MAX_LEN : goal.returns-then-len-gt-MAX_LEN
returns-then-len-gt-MAX_LEN c =
    no_written (λ cell. field_bytes (c.args.oid, Some cell)) 8 c.args.len c.args.builder.now c.args.out.now
    c.if-len-gt-MAX_LEN.true (long_field c.args.oid)
