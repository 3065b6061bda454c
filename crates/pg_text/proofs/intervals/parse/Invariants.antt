-- The loop of `parse`: with the parts that are still to come, the parts so far are those of the text.
use Rattle.std.proofs.Common.{◌≡◌, ◌+◌, ℕ}
use Rattle.pg_text.specs.Intervals.{TakesParts, no_parts}
use Rattle.pg_text.specs.declared.intervals.Parts.{Parts}
use Rattle.pg_text.proofs.intervals.parse.Given as goal

abbrev pub invariant-loop-count : goal.invariant-loop-count
invariant-loop-count l =
    (more : ℕ) (parts : Parts) → more + l.count ≡ 4 → TakesParts more l.parts l.scanner.rest.now parts
    → TakesParts 4 no_parts l.text parts
