-- The invariants and measures of `write_whole`.
use Rattle.std.proofs.Common.{◌≤◌, length, take}
use Rattle.std.specs.Io.KnownBytes.{Appends}
use Rattle.streams.proofs.blocks.write_whole.Given as goal

abbrev pub invariant-turns : goal.invariant-turns
invariant-turns g l =
    (l.sent ≤ length l.bytes)
    × Appends (g.W.Write.contents l.initial.output) (g.W.Write.contents l.output) (take l.sent l.bytes)
