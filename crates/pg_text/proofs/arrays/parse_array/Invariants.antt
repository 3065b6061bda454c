-- The loop of `parse_array`: the items before the rest say the elements, and the rest is items that are parsed, if the
-- text is.
use Rattle.std.proofs.Common.{length, ◌+◌, ◌≤◌}
use Rattle.pg_text.specs.Lists.{ParsesArray}
use Rattle.pg_text.proofs.ArrayTexts.{Begun}
use Rattle.pg_text.proofs.ParsedArrays.{Parsed}
use Rattle.pg_text.proofs.arrays.parse_array.Given as goal

abbrev pub invariant-loop : goal.invariant-loop
invariant-loop g l =
    Begun g.T.FromText.says l.initial.rest l.elements.items l.rest
    × (ParsesArray g.T.FromText.parses l.text → Parsed g.T.FromText.parses l.rest)
    × (l.counter + length l.rest + 2 ≤ length l.text)
