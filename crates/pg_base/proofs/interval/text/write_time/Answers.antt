-- What the proof of `write_time` answers by hand.
use Rattle.std.proofs.Common.{refl, ap, ◌∙◌, ◌≡◌}
use Rattle.std.specs.Int.{w32, w64}
use Rattle.std.specs.Prelude.{unsigned_abs}
use Rattle.std.proofs.Output.{has_written_append}
use Rattle.std.proofs.lemmas.Int.{to_z-of_z}
use Rattle.pg_base.proofs.interval.text.write_time.Goals as goal

pub returns : goal.returns
returns g c = λ plain ok.
    let same = to_z-of_z w64 c.args.micros c.ranges.micros in
    let before = to_z-of_z w32 c.args.before c.ranges.before in
    let sign = rw (before, same) at c.in_ok-write_sign.ensures plain refl in
    let micros : c.unsigned_abs.result ≡ unsigned_abs c.args.micros =
    c.unsigned_abs.ensures.value ∙ ap unsigned_abs same in
    let hours = rw micros at c.write_micros.ensures sign.plain ok in
    has_written_append _ _ _ _ _ _ sign hours
