-- The loop of `unescape`: what the rest says follows the bytes so far.
use Rattle.std.proofs.Common.{length}
use Rattle.pg_text.proofs.EscapedBytes.{Follows}
use Rattle.pg_text.proofs.bytea.unescape.Given as goal

abbrev pub invariant-loop-rest : goal.invariant-loop-rest
invariant-loop-rest l = Follows l.text l.rest l.bytes.items

abbrev pub decreases-loop-rest : goal.decreases-loop-rest
decreases-loop-rest l = length l.rest
