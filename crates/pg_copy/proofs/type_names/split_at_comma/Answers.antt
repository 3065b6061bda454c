-- What the proof of `split_at_comma` answers by hand.
use Rattle.std.proofs.Common.{◌<◌, arith, get_or}
use Rattle.std.proofs.lemmas.Str.{IsCharBoundary-after_ascii}
use Rattle.pg_copy.proofs.type_names.split_at_comma.Goals as goal

pub range_from-requires : goal.range_from-requires
range_from-requires c =
    let comma = rw c.as_bytes.ensures.value at c.in-Some.ensures in
    let low : get_or c.args.text.now c.in-Some.place 0 < 128 = omega (arith, comma.0) in
    λ later. IsCharBoundary-after_ascii c.args.text.now c.in-Some.place c.utf8.text comma.1 low
