-- The loop of `comma_of`.
use Rattle.std.proofs.Common.{◌≤◌}
use Rattle.pg_copy.proofs.WordLaws.{Reached}
use Rattle.pg_copy.proofs.type_names.comma_of.Given as goal

-- no comma before this place divides the text; each parenthesis is a byte
abbrev pub invariant-bytes : goal.invariant-bytes
invariant-bytes l = record { within : l.depth ≤ l.place; reached : Reached l.text l.place l.depth l.is_quoted }
