-- Dates, times of day and timestamps as parts.
use Rattle.std.specs.Prelude.{◌≡◌, ◌<◌, ℤ, pos, ◌+ℤ◌, ◌<ℤ◌, ◌≤ℤ◌, Ok, Err}
use Rattle.std.specs.Int.{Width}
use Rattle.pg_base.specs.Civil.{base_day}
use Rattle.pg_base.specs.Special.{infinity_number, minus_infinity_number}
use Rattle.pg_calendar.specs.Calendar.{IsDay, IsTimestamp, day_number, micros_of_day}
use Rattle.pg_types.specs.Faults.{Outcome, decode, transmit}
use Rattle.pg_cells_c.specs.declared.date_parts.DateParts.{DateParts}
use Rattle.pg_cells_c.specs.declared.date_parts.TimeParts.{TimeParts}
use Rattle.pg_cells_c.specs.declared.date_parts.TimestampParts.{TimestampParts}

-- a number of a width that is not an infinity
abbrev pub IsFinite : Width → ℤ → Type 0
IsFinite w z = (minus_infinity_number w <ℤ z) × (z <ℤ infinity_number w)

-- the day is that many days after 2000-01-01
abbrev pub IsDate : DateParts → ℤ → Type 0
IsDate v days = IsDay v.year v.month v.day × (day_number v.year v.month v.day ≡ days +ℤ base_day)

-- a number of microseconds from midnight to the next midnight, both included
abbrev pub IsOfDay : ℤ → Type 0
IsOfDay micros = (pos 0 ≤ℤ micros) × (micros ≤ℤ pos 86_400_000_000)

-- the time of day is that many microseconds after midnight
abbrev pub IsTime : TimeParts → ℤ → Type 0
IsTime v micros =
    (v.minute < 60) × (v.second < 60) × (v.microsecond < 1_000_000)
    × (micros ≡ pos (micros_of_day v.hour v.minute v.second v.microsecond))

-- 2000-01-01 00:00:00, in microseconds from 1970-01-01 00:00:00
abbrev pub base_micros : ℤ
base_micros = pos 946_684_800_000_000

-- the day and the time of day are that many microseconds after 2000-01-01 00:00:00
abbrev pub IsTimestampOf : TimestampParts → ℤ → Type 0
IsTimestampOf v micros =
    IsTimestamp v.date.year v.date.month v.date.day v.time.hour v.time.minute v.time.second v.time.microsecond
    (micros +ℤ base_micros)

-- the parts of a number within bounds; any other number is refused with Decode
abbrev pub GivesParts : {A : Type 0} → (ℤ → Type 0) → (A → ℤ → Type 0) → ℤ → Outcome A → Type 0
GivesParts within names z (Ok v) = within z × names v z
GivesParts within names z (Err r) = (r ≡ decode) × (within z → ⊥)

-- the number within bounds that has these parts; if there is none, the parts are refused with Transmit
abbrev pub GivesNumber : {A : Type 0} → (ℤ → Type 0) → (A → ℤ → Type 0) → A → Outcome ℤ → Type 0
GivesNumber within names v (Ok z) = within z × names v z
GivesNumber within names v (Err r) = (r ≡ transmit) × ((z : ℤ) → within z → names v z → ⊥)
