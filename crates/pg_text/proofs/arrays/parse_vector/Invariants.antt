-- The loop of `parse_vector`: the numbers are those of the pieces before this one.
use Rattle.std.proofs.Common.{map}
use Rattle.std.specs.List.{AllZip}
use Rattle.pg_text.specs.Spaces.{Plain}
use Rattle.pg_text.proofs.arrays.parse_vector.Given as goal

abbrev pub invariant-loop-number : goal.invariant-loop-number
invariant-loop-number g l = AllZip (Plain g.T.FromText.says) (map (λ x. x.now) l.yielded) l.numbers.items
