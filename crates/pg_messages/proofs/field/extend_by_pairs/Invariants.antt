-- The loop of `extend_by_pairs`: the pairs so far were appended.
use Rattle.pg_messages.specs.Fields.{pair_form}
use Rattle.pg_messages.proofs.Forms.{Extended}
use Rattle.pg_messages.proofs.field.extend_by_pairs.Given as goal

abbrev pub invariant-loop-name : goal.invariant-loop-name
invariant-loop-name l = Extended pair_form l.pairs l.name-index l.fn.out l.out
