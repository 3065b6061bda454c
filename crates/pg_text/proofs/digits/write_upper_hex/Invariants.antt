-- The loop of `write_upper_hex`: the digits of the rest before those that are written are those of the number.
use Rattle.std.proofs.Common.{◌≡◌, ◌≤◌, length, drop, true}
use Rattle.std.specs.Fmt.{digits_onto, digits}
use Rattle.pg_text.proofs.digits.write_upper_hex.Given as goal

abbrev pub invariant-loop-start : goal.invariant-loop-start
invariant-loop-start l =
    (l.start ≤ 64) × (length l.buffer ≡ 64)
    × (digits_onto l.start 16 true l.rest (drop l.start l.buffer) ≡ digits 16 true l.number)

abbrev pub decreases-loop-start : goal.decreases-loop-start
decreases-loop-start l = l.start
