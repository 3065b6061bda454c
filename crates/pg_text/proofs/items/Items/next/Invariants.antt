-- The loop of `next`: what the bytes before this one say stands in the buffer, whatever comes after them.
use Rattle.std.proofs.Common.{take}
use Rattle.pg_text.proofs.ItemTexts.{SoFar}
use Rattle.pg_text.proofs.items.Items.next.Given as goal

abbrev pub invariant-loop-at : goal.invariant-loop-at
invariant-loop-at l = SoFar l.self l.place (take l.at l.bytes) l.out.items
