-- The loop of `push_records`: the records before this one stand there after the brace.
use Rattle.std.proofs.Common.{◌≡◌, ◌++◌, ◌∷◌, [], ℕ, List, take}
use Rattle.std.specs.List.{AllZip, join_with_byte}
use Rattle.pg_copy.specs.Composites.{ShowsRecord}
use Rattle.pg_text.specs.Lists.{ShowsElement}
use Rattle.pg_copy.proofs.show.push_records.Given as goal

abbrev pub invariant-loop-place : goal.invariant-loop-place
invariant-loop-place l =
    (items : List (List ℕ))
    × AllZip (ShowsElement (λ s. ShowsRecord l.fn.fields s.now)) (take l.place l.records) items
    × (l.text.items ≡ (l.fn.text.items ++ 123 ∷ []) ++ join_with_byte 44 items)
