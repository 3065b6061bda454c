-- The loop of `find`: no separator stands among so many bytes.
use Rattle.std.proofs.Common.{◌+◌, ◌-◌, ◌<◌}
use Rattle.memchr.specs.Find.{Nowhere, Passes, is_byte}
use Rattle.streams.proofs.split.find.Given as goal

abbrev pub invariant-bytes : goal.invariant-bytes
invariant-bytes l = (l.at < l.last + 16) × Nowhere (Passes (is_byte l.separator) l.bytes) 0 l.at

abbrev pub decreases-bytes : goal.decreases-bytes
decreases-bytes l = l.last - l.at
