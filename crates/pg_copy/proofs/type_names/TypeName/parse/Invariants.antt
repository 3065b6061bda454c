-- The loop of `TypeName::parse`.
use Rattle.std.proofs.Common.{◌≡◌, ℕ, length, nat_lt}
use denote.Text.{Utf8}
use denote.Shadow.{shadow}
use Rattle.pg_copy.specs.TypeNames.{IsWithoutPairs}
use Rattle.pg_copy.proofs.type_names.TypeName.parse.Given as goal

-- each turn cuts off two bytes at least
abbrev pub decreases-loop-before : goal.decreases-loop-before
decreases-loop-before l = length l.name

-- so many pairs of brackets were cut off
abbrev pub invariant-loop-before : goal.invariant-loop-before
invariant-loop-before l =
    shadow (Utf8 l.name)
    × ((pairs : ℕ) × IsWithoutPairs pairs l.name l.initial.name × (l.is_array ≡ nat_lt 0 pairs))
