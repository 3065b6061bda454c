-- What the proof of `varbit_from_sql` answers by hand.
use Rattle.std.proofs.Common.{◌∙◌}
use Rattle.pg_base.proofs.BitCells.{spells_first_bits}
use Rattle.pg_base.proofs.protocol.bits.varbit_from_sql.Goals as goal

pub returns-clause-outcome : goal.returns-clause-outcome
returns-clause-outcome c =
    let count = c.in_ok-len.ensures.outcome in
    spells_first_bits c.args.raw.now count.0 c.in_ok-len.bytes.now c.in_ok-len.len count.1 count.2
    (c.if-bytes-div_ceil.false ∙ c.div_ceil.ensures)
