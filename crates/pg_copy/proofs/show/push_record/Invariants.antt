-- The loop of `push_record`: the fields before this one were taken, and their texts stand there after the parenthesis.
use Rattle.std.proofs.Common.{◌≡◌, ◌++◌, ◌∷◌, [], ℕ, List, map, take}
use Rattle.std.specs.List.{AllZip, flat_map, join_with_byte}
use Rattle.pg_base.specs.Counts.{after_number}
use Rattle.pg_copy.specs.Composites.{ShowsField}
use Rattle.pg_copy.proofs.show.push_record.Given as goal

abbrev pub invariant-loop-place : goal.invariant-loop-place
invariant-loop-place l =
    (parts : List (List ℕ × List ℕ))
    × AllZip ShowsField (take l.place l.fields) parts
    × (after_number l.fn.raw ≡ flat_map (λ part. part.0) parts ++ l.rest)
    × (l.text.items ≡ (l.fn.text.items ++ 40 ∷ []) ++ join_with_byte 44 (map (λ part. part.1) parts))
