-- What the proof of `write_digits` answers by hand.
use Rattle.std.proofs.Common.{◌<◌, ◌^◌, ◌-ℤ◌, add-one, arith, pos, refl}
use Rattle.std.proofs.Output.{has_written_append}
use Rattle.std.proofs.lemmas.Int.{to_z-of_z}
use Rattle.std.specs.Int.{w32}
use Rattle.pg_numbers.proofs.WrittenDigits.{place_fits, weight_fits}
use Rattle.pg_numbers.proofs.numeric.text.write_digits.Goals as goal

pub loop-place-preserved : goal.loop-place-preserved
loop-place-preserved g c = λ plain.
    let so_far = c.loop-place.invariant plain in
    let digit = c.in_ok-write_digit.ensures so_far.plain refl in
    let small : c.loop-place.place < 2 ^ 16 = omega arith in
    let weight = to_z-of_z w32 c.args.weight c.ranges.weight in
    let place = to_z-of_z w32 c.from.result (place_fits c.loop-place.place small c.from.result c.from.ensures) in
    let next = to_z-of_z w32 (c.args.weight -ℤ pos c.loop-place.place)
    (weight_fits c.args.weight c.loop-place.place c.requires.low c.requires.high small) in
    let written = rw (weight, place, c.from.ensures, next) at digit in
    let before = rw weight at so_far in
    rw (weight, add-one) (has_written_append _ _ _ _ _ _ before written)
