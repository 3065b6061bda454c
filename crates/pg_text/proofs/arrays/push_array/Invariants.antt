-- The loop of `push_array`: the elements before this one stand there after the brace.
use Rattle.std.proofs.Common.{◌≡◌, ◌++◌, ◌∷◌, [], ℕ, List, take}
use Rattle.std.specs.List.{AllZip, join_with_byte}
use Rattle.pg_text.specs.Lists.{ShowsElement}
use Rattle.pg_text.proofs.arrays.push_array.Given as goal

abbrev pub invariant-loop-place : goal.invariant-loop-place
invariant-loop-place g l =
    (items : List (List ℕ))
    × AllZip (ShowsElement g.T.ToText.shows) (take l.place l.elements) items
    × (l.out.items ≡ (l.fn.out.items ++ 123 ∷ []) ++ join_with_byte 44 items)
