-- Timestamps: TIMESTAMP (timestamp_send, timestamp_recv) and TIMESTAMPTZ (timestamptz_send, timestamptz_recv), which
-- have the same format. A timestamp is given by its nanoseconds from 1970-01-01 00:00:00 UTC.
use Rattle.std.specs.Prelude.{◌≡◌, ℤ, pos, ◌+ℤ◌, ◌-ℤ◌, ◌*ℤ◌, int_div, ℕ, List, Bool, ◌||◌}
use Rattle.std.specs.Int.{byte_len, w64}
use Rattle.pg_types.specs.declared.types.built_in.BuiltIn.TheVariants.{Timestamp, Timestamptz}
use Rattle.pg_base.specs.declared.unix_time.UnixTime.{UnixTime}
use Rattle.pg_base.specs.Cells.{Cell, IsBe}
use Rattle.pg_types.specs.Content.{Content, is_row}
use Rattle.pg_types.specs.Faults.{Outcome}
use Rattle.pg_base.specs.Formats.{ReadsPlain}
use Rattle.pg_base.specs.Numbers.{first_fault_number, wire_signed}
use Rattle.pg_base.specs.Appending.{Wire}

-- 2000-01-01 00:00:00 UTC, PostgreSQL's epoch, in nanoseconds
abbrev pub base_nanos : ℤ
base_nanos = pos 946_684_800_000_000_000

-- the nanoseconds of a timestamp in seconds
abbrev pub nanos_of : UnixTime → ℤ
nanos_of v = v.secs *ℤ pos 1_000_000_000 +ℤ pos v.nanos

-- timestamps accept TIMESTAMP and TIMESTAMPTZ
abbrev pub accepts_timestamps : Content → Bool
accepts_timestamps ty = is_row Timestamp ty || is_row Timestamptz ty

-- v is this number of microseconds after 2000-01-01 00:00:00 UTC
abbrev pub IsAfterBase : {A : Type 0} → (A → ℤ) → ℤ → A → Type 0
IsAfterBase nanos micros v = nanos v ≡ base_nanos +ℤ micros *ℤ pos 1000

-- the bytes spell v's microseconds after 2000-01-01 00:00:00 UTC, in 8 bytes
abbrev pub FormTimestamp : {A : Type 0} → (A → ℤ) → List ℕ → A → Type 0
FormTimestamp nanos b v = (micros : ℤ) × IsBe w64 b micros × IsAfterBase nanos micros v

-- what a cell reads as
abbrev pub ReadsTimestamp : {A : Type 0} → (A → ℤ) → Cell → Outcome A → Type 0
ReadsTimestamp nanos = ReadsPlain (FormTimestamp nanos) (first_fault_number (byte_len w64))

-- the microseconds from 2000-01-01 00:00:00 UTC to a timestamp, truncated toward zero
abbrev pub whole_micros : ℤ → ℤ
whole_micros nanos = int_div (nanos -ℤ base_nanos) (pos 1000)

-- the cell of a timestamp: these microseconds, or Transmit if they do not fit in 8 bytes
abbrev pub wire_timestamp : ℤ → Wire
wire_timestamp nanos = wire_signed w64 (whole_micros nanos)
