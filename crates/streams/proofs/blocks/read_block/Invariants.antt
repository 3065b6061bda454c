-- The invariants and measures of `read_block`.
use Rattle.std.specs.Io.KnownBytes.{Keeps}
use Rattle.streams.proofs.blocks.read_block.Given as goal

abbrev pub invariant-turns : goal.invariant-turns
invariant-turns g l = Keeps (g.R.Read.remaining l.initial.input) (g.R.Read.remaining l.input)
