-- The loop of `push_types`.
use Rattle.std.proofs.Common.{◌≡◌, ◌++◌, length}
use Rattle.pg_copy.proofs.ArgumentLaws.{IsNotBlank, types_left}
use Rattle.pg_copy.specs.Arguments.{texts_of, types_of_word}
use Rattle.pg_copy.proofs.arguments.push_types.Given as goal

-- each turn takes a type off
abbrev pub decreases-loop-rest : goal.decreases-loop-rest
decreases-loop-rest l = length (types_left l.rest)

-- the types that are left go after those so far
abbrev pub invariant-loop-rest : goal.invariant-loop-rest
invariant-loop-rest l = record {
  live : IsNotBlank l.rest;
  added : texts_of l.types.items ++ types_left l.rest ≡ texts_of l.initial.types.items ++ types_of_word l.word;
}
