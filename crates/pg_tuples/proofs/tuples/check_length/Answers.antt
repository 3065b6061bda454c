-- What the proof of `check_length` answers by hand.
use Rattle.std.proofs.Common.{◌<ℤ◌, arith, negsuc, refl}
use Rattle.std.proofs.lemmas.Int.{ints}
use Rattle.pg_tuples.proofs.FrontLaws.{negative_length}
use Rattle.pg_tuples.proofs.tuples.check_length.Goals as goal

pub returns-then-len-ltminus1-clause-refused : goal.returns-then-len-ltminus1-clause-refused
returns-then-len-ltminus1-clause-refused c =
    let below : c.in-Ok.len <ℤ negsuc 0 = omega (arith, ints) in
    (refl, negative_length c.args.bytes.now c.in-Ok.field-0-1.now c.in-Ok.len c.in-Ok.ensures.outcome below)
