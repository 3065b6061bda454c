-- The loop of `parse`: so many bytes were taken from the front of the text.
use Rattle.std.proofs.Common.{◌≡◌, ◌++◌, ◌-◌, length, take}
use Rattle.std.specs.Prelude.{option_map}
use Rattle.pg_more_types.specs.Macaddr8.{bytes_said}
use Rattle.pg_more_types.proofs.macaddr8.text.parse.Given as goal

abbrev pub invariant-loop-place : goal.invariant-loop-place
invariant-loop-place l =
    (length l.bytes ≡ 8)
    × (bytes_said 8 l.separator l.text
    ≡ option_map (λ more. take l.place l.bytes ++ more) (bytes_said (8 - l.place) l.separator l.rest))
