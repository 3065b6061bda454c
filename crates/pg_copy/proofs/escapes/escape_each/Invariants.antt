-- The invariant of `escape_each`: so many bytes were appended as they are escaped.
use Rattle.std.proofs.Common.{◌≡◌, ◌++◌, take}
use Rattle.pg_copy.specs.Escapes.{escaped}
use Rattle.pg_copy.proofs.escapes.escape_each.Given as goal

abbrev pub invariant-bytes : goal.invariant-bytes
invariant-bytes l = l.out.items ≡ l.initial.out.items ++ escaped (take l.byte-index l.text)
