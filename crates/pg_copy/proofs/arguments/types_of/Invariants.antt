-- The loop of `types_of`.
use Rattle.std.proofs.Common.{◌≡◌, ◌++◌, drop}
use Rattle.pg_copy.specs.Arguments.{texts_of, types_of_words}
use Rattle.pg_copy.proofs.arguments.types_of.Given as goal

-- the types of the words that are left go after those so far
abbrev pub invariant-loop-word : goal.invariant-loop-word
invariant-loop-word l =
    texts_of l.types.items ++ types_of_words (drop l.word-index l.words) ≡ types_of_words l.words
