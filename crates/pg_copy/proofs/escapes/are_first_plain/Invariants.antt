-- The loop of `are_first_plain`: so many bytes stand for themselves.
use Rattle.std.proofs.Common.{◌+◌, ◌-◌, ◌<◌}
use Rattle.pg_copy.specs.Escapes.{PlainBetween}
use Rattle.pg_copy.proofs.escapes.are_first_plain.Given as goal

abbrev pub invariant-bytes : goal.invariant-bytes
invariant-bytes l = (l.at < l.end + 16) × PlainBetween l.text 0 l.at

abbrev pub decreases-bytes : goal.decreases-bytes
decreases-bytes l = l.end - l.at
