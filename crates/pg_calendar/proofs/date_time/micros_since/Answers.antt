-- What the proof of `micros_since` answers by hand.
use Rattle.std.proofs.Common.{rules, arith, ◌≡◌, pos, ◌+ℤ◌, ◌-ℤ◌, ◌*ℤ◌, to_z, of_z}
use Rattle.std.specs.Int.{w128}
use Rattle.jiff_core.proofs.SignedLemmas.{signed_arith}
use Rattle.pg_calendar.proofs.date_time.micros_since.Goals as goal

pub overflow_add-days : goal.overflow_add-days
overflow_add-days c = omega (arith, signed_arith)

pub returns : goal.returns
returns c =
    let days : to_z w128 (of_z w128 (to_z w128 (of_z w128 c.from.result) -ℤ to_z w128 (of_z w128 c.from-2.result)))
    ≡ c.args.day -ℤ c.args.start = omega (arith, signed_arith) in
    let start = (c.args.day -ℤ c.args.start) *ℤ pos 86_400_000_000 in
    let sum : to_z w128 (of_z w128 (to_z w128 (of_z w128 start) +ℤ to_z w128 (of_z w128 c.from-3.result)))
    ≡ start +ℤ c.args.micros = omega (arith, signed_arith) in
    let clause = rw sum at (rw days at c.try_from.ensures) in
    search (rules, clause)
