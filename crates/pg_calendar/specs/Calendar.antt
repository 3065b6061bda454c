-- Dates of the proleptic Gregorian calendar in any year, and timestamps, each with the time from 1970-01-01 00:00:00 to
-- it. Year 0 is the year before year 1.
use Rattle.std.specs.Prelude.{◌≡◌, ℕ, zero, suc, ◌+◌, ◌*◌, ◌<◌, ℤ, pos, ◌+ℤ◌, ◌-ℤ◌, ◌*ℤ◌, int_lt}
use Rattle.std.specs.Prelude.{if◌then◌else◌, unsigned_abs}
use Rattle.std.specs.Int.{IsInRange, int_div_euclid, int_rem_euclid}
use Rattle.jiff_core.specs.Calendar.{days_from_civil, days_in_month}

-- the year has this month, and the month this day
abbrev pub IsDay : ℤ → ℕ → ℕ → Type 0
IsDay year month day = IsInRange 1 12 month × IsInRange 1 (days_in_month year month) day

-- the number of days from 1970-01-01 to a day: the calendar repeats after 400 years, which have 146,097 days
abbrev pub day_number : ℤ → ℕ → ℕ → ℤ
day_number year month day =
    days_from_civil (int_rem_euclid year (pos 400)) month day +ℤ int_div_euclid year (pos 400) *ℤ pos 146_097

-- the last of the first n, counted from 1, that begins on a day or before it; 0 if none does
abbrev pub last_begun : (ℕ → ℤ) → ℤ → ℕ → ℕ
last_begun start day zero = zero
last_begun start day (suc n) = if int_lt day (start (suc n)) then last_begun start day n else suc n

-- the year of the day with this number: the last one that begins on it or before it, of the 400 years that it is in;
-- 0000-01-01 has the number -719,528
abbrev pub civil_year : ℤ → ℤ
civil_year n =
    let first = int_div_euclid (n +ℤ pos 719_528) (pos 146_097) *ℤ pos 400 in
    first +ℤ pos (last_begun (λ year. day_number (first +ℤ pos year) 1 1) n 399)

-- its month: the last one that begins on it or before it
abbrev pub civil_month : ℤ → ℕ
civil_month n = last_begun (λ month. day_number (civil_year n) month 1) n 12

-- its day of the month
abbrev pub civil_day : ℤ → ℕ
civil_day n = unsigned_abs (n -ℤ day_number (civil_year n) (civil_month n) 1) + 1

-- the number of microseconds in a day
abbrev pub micros_per_day : ℤ
micros_per_day = pos 86_400_000_000

-- a time of day, in microseconds from midnight
abbrev pub micros_of_day : ℕ → ℕ → ℕ → ℕ → ℕ
micros_of_day hour minute second fraction = ((hour * 60 + minute) * 60 + second) * 1_000_000 + fraction

-- a day has this time; 24:00:00 is the next day's
abbrev pub IsClock : ℕ → ℕ → ℕ → ℕ → Type 0
IsClock hour minute second fraction = (hour < 24) × (minute < 60) × (second < 60) × (fraction < 1_000_000)

-- the day and the time of day are this number of microseconds after 1970-01-01 00:00:00 (timestamp2tm)
abbrev pub IsTimestamp : ℤ → ℕ → ℕ → ℕ → ℕ → ℕ → ℕ → ℤ → Type 0
IsTimestamp year month day hour minute second fraction micros =
    IsDay year month day
    × IsClock hour minute second fraction
    × (micros ≡ day_number year month day *ℤ micros_per_day +ℤ pos (micros_of_day hour minute second fraction))
