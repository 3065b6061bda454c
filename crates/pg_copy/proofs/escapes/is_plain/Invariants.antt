-- The loop of `is_plain`: whether none of so many bytes has a letter.
use Rattle.std.proofs.Common.{◌≡◌, ◌==◌, take}
use Rattle.std.specs.List.{list_all}
use Rattle.pg_copy.specs.Escapes.{is_plain}
use Rattle.pg_copy.proofs.escapes.is_plain.Given as goal

abbrev pub invariant-bytes : goal.invariant-bytes
invariant-bytes l = (l.letters == 0) ≡ list_all is_plain (take l.byte-index l.text)
