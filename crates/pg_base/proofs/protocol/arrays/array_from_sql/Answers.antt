-- What the proof of `array_from_sql` answers by hand.
use Rattle.std.proofs.Common.{◌≡◌, ◌++◌, arith}
use Rattle.std.proofs.lemmas.Grind.{common_steps}
use Rattle.pg_base.proofs.ArrayHeads.{one_dimension}
use Rattle.pg_base.proofs.protocol.arrays.array_from_sql.Goals as goal

pub returns-clause-outcome : goal.returns-clause-outcome
returns-clause-outcome c =
    let count = c.in_ok-dimensions.ensures.outcome in
    let flags_and_oid = c.split_at.result.0.now in
    let rest = c.split_at.result.1.now in
    let parts : c.in_ok-dimensions.bytes.now ≡ flags_and_oid ++ rest = grind (arith, common_steps) in
    let one : c.in_ok-dimensions.dimensions ≡ 1 = omega arith in
    one_dimension c.args.raw.now count.0 c.in_ok-dimensions.bytes.now flags_and_oid rest c.in_ok-dimensions.dimensions
    c.split_dimension.result count.1 count.2 one parts c.split_at.ensures.front_len c.split_dimension.ensures.outcome
