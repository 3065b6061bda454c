-- The loop of `pairs_len`: the pairs so far are counted.
use Rattle.pg_messages.specs.Fields.{pair_form}
use Rattle.pg_messages.proofs.Forms.{Counted}
use Rattle.pg_messages.proofs.field.pairs_len.Given as goal

abbrev pub invariant-loop-name : goal.invariant-loop-name
invariant-loop-name l = Counted pair_form l.pairs l.name-index l.len
