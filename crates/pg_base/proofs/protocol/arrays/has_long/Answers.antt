-- What the proof of `has_long` answers by hand.
use Rattle.std.proofs.Common.{sym, arith}
use Rattle.pg_base.proofs.CellsByLength.{none_long}
use Rattle.pg_base.proofs.protocol.arrays.has_long.Goals as goal

pub returns-then-total-le-MAX_LEN : goal.returns-then-total-le-MAX_LEN
returns-then-total-le-MAX_LEN c =
    sym (none_long c.args.lens.now (omega (arith, c.requires, c.if-total-le-MAX_LEN.true)))
