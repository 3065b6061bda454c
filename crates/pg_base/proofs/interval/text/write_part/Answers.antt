-- What the proof of `write_part` answers by hand.
use Rattle.std.proofs.Common.{refl, ◌≡◌, ◌==◌, false, w32, rules}
use Rattle.std.specs.Prelude.{unsigned_abs}
use Rattle.std.proofs.Output.{has_written_append}
use Rattle.std.proofs.lemmas.Int.{to_z-of_z}
use Rattle.pg_base.proofs.interval.text.write_part.Goals as goal

pub returns : goal.returns
returns g c = λ plain ok.
    let before = to_z-of_z w32 c.args.before c.ranges.before in
    let number = to_z-of_z w32 c.args.number c.ranges.number in
    let sign = rw (before, number) at c.in_ok-write_sign.ensures plain refl in
    let count = rw number at c.write_count.ensures sign.plain ok in
    let some : (unsigned_abs c.args.number == 0) ≡ false = search rules in
    rw some (has_written_append _ _ _ _ _ _ sign count)
