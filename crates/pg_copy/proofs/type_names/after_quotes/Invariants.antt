-- The loop of `after_quotes`.
use Rattle.std.proofs.Common.{◌≡◌, false, length}
use denote.Text.{Utf8}
use denote.Shadow.{shadow}
use Rattle.pg_copy.specs.Words.{after_quotes}
use Rattle.pg_copy.proofs.type_names.after_quotes.Given as goal

-- each turn reads a quote at least
abbrev pub decreases-loop-after : goal.decreases-loop-after
decreases-loop-after l = length l.quoted

-- the name goes on in what is left
abbrev pub invariant-loop-after : goal.invariant-loop-after
invariant-loop-after l = shadow (Utf8 l.quoted) × (after_quotes false l.text ≡ after_quotes false l.quoted)
