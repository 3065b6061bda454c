-- The hash that the default hasher computes from what is written to it.
use Rattle.std.specs.Prelude.{ℕ, List, fold}
use Rattle.std.specs.Hash.DefaultHasher as sip

-- the hash after these writes
abbrev pub digest : List (List ℕ) → ℕ
digest writes = sip.finish (fold sip.write sip.initial writes)
