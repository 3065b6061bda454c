-- The loop of `push_quoted`: the bytes before this one stand there after the quote.
use Rattle.std.proofs.Common.{◌≡◌, ◌++◌, ◌∷◌, [], take}
use Rattle.std.specs.List.{flat_map}
use Rattle.pg_text.specs.Quotes.{escaped}
use Rattle.pg_text.proofs.quotes.push_quoted.Given as goal

abbrev pub invariant-loop-byte : goal.invariant-loop-byte
invariant-loop-byte l =
    l.out.items ≡ (l.fn.out.items ++ 34 ∷ []) ++ flat_map (escaped l.escape) (take l.byte-index l.text)
