-- The texts of dates and times of day, with DateStyle ISO.
use Rattle.std.specs.Prelude.{ℕ, ◌+◌, ◌-◌, ◌/◌, ◌%◌, ◌==◌, ℤ, pos, List, [], ◌∷◌, ◌++◌, codes, int_lt, length}
use Rattle.std.specs.Prelude.{if◌then◌else◌, replicate, take, unsigned_abs}
use Rattle.std.specs.Fmt.{decimal}
use Rattle.std.specs.Int.{int_div_euclid, int_rem_euclid}
use Rattle.std.specs.List.{suffix_len}
use Rattle.pg_calendar.specs.Calendar.{civil_day, civil_month, civil_year, micros_per_day}

-- a number in at least `width` digits, padded with zeros (pg_ultostr_zeropad)
abbrev pub padded_text : ℕ → ℕ → List ℕ
padded_text width n = replicate (width - length (decimal n)) 48 ++ decimal n

-- a text without its trailing zeros
abbrev pub without_zeros : List ℕ → List ℕ
without_zeros text = take (length text - suffix_len (λ c. c == 48) text) text

-- a decimal point and the millionths without trailing zeros; nothing if there are none (AppendSeconds)
abbrev pub fraction_text : ℕ → List ℕ
fraction_text micros = if micros == 0 then [] else 46 ∷ without_zeros (padded_text 6 micros)

-- hours, minutes and seconds
abbrev pub seconds_text : ℕ → ℕ → ℕ → List ℕ
seconds_text hour minute second = padded_text 2 hour ++ 58 ∷ (padded_text 2 minute ++ 58 ∷ padded_text 2 second)

-- a time of day (EncodeTimeOnly)
abbrev pub clock_text : ℕ → ℕ → ℕ → ℕ → List ℕ
clock_text hour minute second micros = seconds_text hour minute second ++ fraction_text micros

-- the number of a year in its era: year 0, the year before year 1, is 1 BC
abbrev pub year_of_era : ℤ → ℕ
year_of_era year = if int_lt (pos 0) year then unsigned_abs year else unsigned_abs year + 1

-- a year, a month and a day (EncodeDateOnly), without the era
abbrev pub day_text : ℤ → ℕ → ℕ → List ℕ
day_text year month day =
    padded_text 4 (year_of_era year) ++ 45 ∷ (padded_text 2 month ++ 45 ∷ padded_text 2 day)

-- the era, which is written only for a year before year 1
abbrev pub era_text : ℤ → List ℕ
era_text year = if int_lt (pos 0) year then [] else codes " BC"

-- a date (date_out)
abbrev pub date_text : ℤ → ℕ → ℕ → List ℕ
date_text year month day = day_text year month day ++ era_text year

-- a day, a time of day, a zone, and then the era (EncodeDateTime)
abbrev pub timestamp_text : ℤ → ℕ → ℕ → List ℕ → List ℕ → List ℕ
timestamp_text year month day clock zone = day_text year month day ++ 32 ∷ (clock ++ (zone ++ era_text year))

-- a timestamp, given by its microseconds after 1970-01-01 00:00:00 (timestamp_out, timestamptz_out)
abbrev pub micros_text : List ℕ → ℤ → List ℕ
micros_text zone micros =
    let day = int_div_euclid micros micros_per_day in
    let of_day = unsigned_abs (int_rem_euclid micros micros_per_day) in
    let clock = clock_text (of_day / 3_600_000_000) (of_day / 60_000_000 % 60) (of_day / 1_000_000 % 60)
    (of_day % 1_000_000) in
    timestamp_text (civil_year day) (civil_month day) (civil_day day) clock zone
