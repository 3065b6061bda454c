-- The invariant of `unescape`: so many bytes were appended with their escapes undone.
use Rattle.pg_copy.proofs.TextLaws.{SoFar}
use Rattle.pg_copy.proofs.escapes.unescape.Given as goal

abbrev pub invariant-bytes : goal.invariant-bytes
invariant-bytes l = SoFar l.text l.initial.out.items l.out.items l.is_escaped l.byte-index
