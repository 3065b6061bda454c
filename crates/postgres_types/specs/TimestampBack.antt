-- What timestamps are read back as: truncated to microseconds.
use Rattle.std.specs.Prelude.{◌≡◌, ◌*◌, ◌/◌, ℤ}
use Rattle.jiff.specs.Types.{Time}
use Rattle.jiff.specs.Words.{time_nanos}
use Rattle.pg_base.specs.Timestamps.{IsAfterBase, whole_micros}

-- w is v, truncated to microseconds from 2000-01-01 00:00:00, toward zero
abbrev pub KeptMicros : {A : Type 0} → (A → ℤ) → A → A → Type 0
KeptMicros nanos v w = IsAfterBase nanos (whole_micros (nanos v)) w

-- w is v, truncated to microseconds from midnight
abbrev pub KeptMicrosOfDay : Time → Time → Type 0
KeptMicrosOfDay v w = time_nanos w ≡ time_nanos v / 1000 * 1000
