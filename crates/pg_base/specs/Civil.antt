-- Dates and times: DATE (date_send, date_recv), TIME (time_send, time_recv), and timestamps with a least and a greatest
-- number. Which date a day number names, and which timestamp a number of nanoseconds, are definitions of `jiff`.
use Rattle.std.specs.Prelude.{◌≡◌, ℕ, ◌/◌, ℤ, pos, neg_ℤ, ◌+ℤ◌, ◌-ℤ◌, ◌*ℤ◌, int_le, List, [], ◌∷◌}
use Rattle.std.specs.Prelude.{Option, Bool, ◌&&◌, Ok, Err}
use Rattle.std.specs.Int.{Width, w32, w64, byte_len}
use Rattle.jiff.specs.Types.{Date, Time, DateTime, Timestamp}
use Rattle.jiff.specs.Words.{epoch_day, time_nanos, civil_nanos, IsBetween}
use Rattle.pg_base.specs.Cells.{Cell, IsBe, signed_in}
use Rattle.pg_base.specs.Counts.{length_check}
use Rattle.pg_types.specs.Faults.{Refusal, Outcome, decode}
use Rattle.pg_base.specs.Formats.{first_fault_of, ReadsPlain}
use Rattle.pg_base.specs.Timestamps.{IsAfterBase, wire_timestamp}
use Rattle.pg_base.specs.Numbers.{wire_signed}
use Rattle.pg_base.specs.Appending.{Wire}

-- whether z lies from low to high, both included
abbrev pub is_between : ℤ → ℤ → ℤ → Bool
is_between low high z = int_le low z && int_le z high

-- any other length than the width's is Size, and a number out of the bounds is Decode
abbrev pub first_fault_count : Width → ℤ → ℤ → List ℕ → Option Refusal
first_fault_count w low high b =
    first_fault_of (length_check (byte_len w) b ∷ (is_between low high (signed_in w b), decode) ∷ [])

-- the bytes spell a number within the bounds in the width, and that number names v
pub record FormCount {A : Type 0} (w : Width) (low high : ℤ) (names : ℤ → A → Type 0) (b : List ℕ)
    (v : A) : Type 0 where
  -- the count
  pub count : ℤ
  -- the bytes are the count
  pub is : IsBe w b count
  -- it lies within the bounds
  pub within : IsBetween low high count
  -- and names the value
  pub named : names count v

-- what a cell of such a number reads as
abbrev pub ReadsCount : {A : Type 0} → Width → ℤ → ℤ → (ℤ → A → Type 0) → Cell → Outcome A → Type 0
ReadsCount w low high names = ReadsPlain (FormCount w low high names) (first_fault_count w low high)

-- what a number gives: a value that it names, or Decode if it is out of the bounds
abbrev pub CountGives : {A : Type 0} → ℤ → ℤ → (ℤ → A → Type 0) → ℤ → Outcome A → Type 0
CountGives low high names z (Ok v) = IsBetween low high z × names z v
CountGives low high names z (Err r) = (IsBetween low high z → ⊥) × (r ≡ decode)

-- 2000-01-01, PostgreSQL's epoch, in days from 1970-01-01
abbrev pub base_day : ℤ
base_day = pos 10_957

-- -9999-01-01, the first date of `jiff`, in days from 2000-01-01
abbrev pub first_day : ℤ
first_day = neg_ℤ (pos 4_382_544)

-- 9999-12-31, the last date of `jiff`, in days from 2000-01-01
abbrev pub last_day : ℤ
last_day = pos 2_921_939

-- v is the date of day 10,957 + d from 1970-01-01
abbrev pub IsDayOf : ℤ → Date → Type 0
IsDayOf d v = epoch_day v ≡ base_day +ℤ d

-- DATE: the date that is this number of days after 2000-01-01
abbrev pub ReadsDate : Cell → Outcome Date → Type 0
ReadsDate = ReadsCount w32 first_day last_day IsDayOf

-- the cell of a date: its days from 2000-01-01, in 4 bytes
abbrev pub wire_date : Date → Wire
wire_date v = wire_signed w32 (epoch_day v -ℤ base_day)

-- the last microsecond of a day
abbrev pub last_micros : ℤ
last_micros = pos 86_399_999_999

-- v is 1,000 u nanoseconds after midnight
abbrev pub IsAfterMidnight : ℤ → Time → Type 0
IsAfterMidnight u v = pos (time_nanos v) ≡ u *ℤ pos 1000

-- TIME: the time that is this number of microseconds after midnight
abbrev pub ReadsTime : Cell → Outcome Time → Type 0
ReadsTime = ReadsCount w64 (pos 0) last_micros IsAfterMidnight

-- the cell of a time: its microseconds from midnight, truncated, in 8 bytes
abbrev pub wire_time : Time → Wire
wire_time v = wire_signed w64 (pos (time_nanos v / 1000))

-- -9999-01-01 00:00:00, in microseconds from 2000-01-01 00:00:00
abbrev pub first_civil : ℤ
first_civil = neg_ℤ (pos 378_651_801_600_000_000)

-- the last microsecond of 9999-12-31, in microseconds from 2000-01-01 00:00:00
abbrev pub last_civil : ℤ
last_civil = pos 252_455_615_999_999_999

-- TIMESTAMP: the civil datetime that is this number of microseconds after 2000-01-01 00:00:00
abbrev pub ReadsDateTime : Cell → Outcome DateTime → Type 0
ReadsDateTime = ReadsCount w64 first_civil last_civil (IsAfterBase civil_nanos)

-- the cell of a civil datetime: its microseconds from 2000-01-01 00:00:00, truncated toward zero, in 8 bytes
abbrev pub wire_datetime : DateTime → Wire
wire_datetime v = wire_timestamp (civil_nanos v)

-- the nanoseconds from 1970-01-01 00:00:00 UTC to an instant
abbrev pub instant_nanos : Timestamp → ℤ
instant_nanos v = v.nanosecond

-- the first instant of `jiff`, in microseconds from 2000-01-01 00:00:00 UTC
abbrev pub first_instant : ℤ
first_instant = neg_ℤ (pos 378_651_708_001_000_000)

-- the last instant of `jiff`, in microseconds from 2000-01-01 00:00:00 UTC
abbrev pub last_instant : ℤ
last_instant = pos 252_455_522_400_999_999

-- TIMESTAMPTZ: the instant that is this number of microseconds after 2000-01-01 00:00:00 UTC
abbrev pub ReadsInstant : Cell → Outcome Timestamp → Type 0
ReadsInstant = ReadsCount w64 first_instant last_instant (IsAfterBase instant_nanos)

-- the cell of an instant: its microseconds from 2000-01-01 00:00:00 UTC, truncated toward zero, in 8 bytes
abbrev pub wire_instant : Timestamp → Wire
wire_instant v = wire_timestamp (instant_nanos v)
