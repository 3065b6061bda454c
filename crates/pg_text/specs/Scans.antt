-- What is at the front of a text, and the rest of the text.
use Rattle.std.specs.Prelude.{◌≡◌, ◌⊎◌, ◌<◌, ℕ, ◌+◌, ◌-◌, ◌*◌, ◌^◌, ◌≤◌, List, [], ◌∷◌, ◌++◌, length}
use Rattle.std.specs.Prelude.{ℤ, pos, negsuc, ◌-ℤ◌, ◌*ℤ◌, ◌≤ℤ◌, codes}
use Rattle.std.specs.Char.{digit_value}
use Rattle.std.specs.Str.Parse.{IsNumeral, digits_value}
use Rattle.jiff.specs.Types.{Date, DateTime, Time, Timestamp}
use Rattle.postgres_types.specs.Civil.{instant_nanos}
use Rattle.postgres_types.specs.Timestamps.{nanos_of}
use Rattle.postgres_types.specs.declared.UnixTime.{UnixTime}
use Rattle.pg_calendar.specs.Calendar.{IsTimestamp, day_number}

-- so many decimal digits, without a sign, of a number
abbrev pub TakesDigits : List ℕ → ℕ → ℕ → List ℕ → Type 0
TakesDigits text n len rest =
    (digits : List ℕ)
    × IsNumeral 10 digits
    × (n ≡ digits_value 10 digits)
    × (len ≡ length digits)
    × (text ≡ digits ++ rest)

-- no decimal digit is at the front
abbrev pub EndsDigits : List ℕ → Type 0
EndsDigits [] = Unit {0}
EndsDigits (byte ∷ rest) = digit_value byte < 10 → ⊥

-- all of the decimal digits at the front
abbrev pub TakesAllDigits : List ℕ → ℕ → ℕ → List ℕ → Type 0
TakesAllDigits text n len rest = TakesDigits text n len rest × EndsDigits rest

-- all of the decimal digits at the front, if there are any, are of a number from the bound on
abbrev pub NoNumber : ℕ → List ℕ → Type 0
NoNumber bound text = (n len : ℕ) (rest : List ℕ) → TakesAllDigits text n len rest → bound ≤ n

-- the decimal digits of a number
abbrev pub TakesNumber : List ℕ → ℕ → List ℕ → Type 0
TakesNumber text n rest = (len : ℕ) × TakesDigits text n len rest

-- a decimal point and up to six digits, as millionths, or nothing
abbrev pub TakesFraction : List ℕ → ℕ → List ℕ → Type 0
TakesFraction text micros rest =
    ((micros ≡ 0) × (text ≡ rest))
    ⊎ ((after : List ℕ)
    × (n len : ℕ)
    × (text ≡ 46 ∷ after)
    × TakesDigits after n len rest
    × (len ≤ 6)
    × (micros ≡ n * 10 ^ (6 - len)))

-- a colon, seconds and a fraction, or nothing, which is no seconds
abbrev pub TakesSeconds : List ℕ → ℕ → ℕ → List ℕ → Type 0
TakesSeconds text second micros rest =
    ((second ≡ 0) × (micros ≡ 0) × (text ≡ rest))
    ⊎ ((a b : List ℕ) × (text ≡ 58 ∷ a) × TakesNumber a second b × TakesFraction b micros rest)

-- hours, minutes, and seconds, if any
abbrev pub TakesClock : List ℕ → ℕ → ℕ → ℕ → ℕ → List ℕ → Type 0
TakesClock text hour minute second micros rest =
    (a b : List ℕ) × TakesNumber text hour (58 ∷ a) × TakesNumber a minute b × TakesSeconds b second micros rest

-- what is parsed as a time (time_in)
abbrev pub SaysTime : List ℕ → Time → Type 0
SaysTime text t =
    (micros : ℕ) × TakesClock text t.hour t.minute t.second micros [] × (t.subsec_nanosecond ≡ micros * 1000)

-- a year in its era, from 1 on, of four digits or more, a month, of two or fewer, and a day
abbrev pub TakesDay : List ℕ → ℤ → ℕ → ℕ → List ℕ → Type 0
TakesDay text year month day rest =
    (n year_len month_len : ℕ)
    × (a b : List ℕ)
    × TakesDigits text n year_len (45 ∷ a)
    × (4 ≤ year_len)
    × TakesDigits a month month_len (45 ∷ b)
    × (month_len ≤ 2)
    × TakesNumber b day rest
    × (0 < n)
    × (year ≡ pos n)

-- a space or T, and a time of day
abbrev pub TakesLaterClock : List ℕ → ℕ → ℕ → ℕ → ℕ → List ℕ → Type 0
TakesLaterClock text hour minute second micros rest =
    (a : List ℕ) × ((text ≡ 32 ∷ a) ⊎ (text ≡ 84 ∷ a)) × TakesClock a hour minute second micros rest

-- a time of day so, or nothing, which is midnight
abbrev pub TakesTime : List ℕ → ℕ → ℕ → ℕ → ℕ → List ℕ → Type 0
TakesTime text hour minute second micros rest =
    ((hour ≡ 0) × (minute ≡ 0) × (second ≡ 0) × (micros ≡ 0) × (text ≡ rest))
    ⊎ TakesLaterClock text hour minute second micros rest

-- a day in its era, and a time of day, if any
abbrev pub TakesDateTime : List ℕ → ℤ → ℕ → ℕ → ℕ → ℕ → ℕ → ℕ → List ℕ → Type 0
TakesDateTime text year month day hour minute second micros rest =
    (a : List ℕ) × TakesDay text year month day a × TakesTime a hour minute second micros rest

-- the era at the end; years BC are counted back from 1
abbrev pub TakesEra : List ℕ → ℤ → ℤ → Type 0
TakesEra text inside year = ((text ≡ codes " BC") × (year ≡ pos 1 -ℤ inside)) ⊎ ((text ≡ []) × (year ≡ inside))

-- a day of the server's calendar, which begins at 4714-11-24 BC, in days from 1970-01-01 (IS_VALID_JULIAN)
abbrev pub IsServerDay : ℤ → Type 0
IsServerDay day = negsuc 2_440_587 ≤ℤ day

-- a timestamp of that calendar, before 294277-01-01, in microseconds from 1970-01-01 (IS_VALID_TIMESTAMP)
abbrev pub IsServerTime : ℤ → Type 0
IsServerTime micros =
    (negsuc 210_866_803_199_999_999 ≤ℤ micros) × (micros ≤ℤ pos 9_224_318_015_999_999_999)

-- a date and its era
abbrev pub TakesWholeDay : List ℕ → ℤ → ℕ → ℕ → Type 0
TakesWholeDay text year month day =
    (inside : ℤ) × (rest : List ℕ) × TakesDay text inside month day rest × TakesEra rest inside year

-- what is parsed as a date (date_in)
abbrev pub SaysDate : List ℕ → Date → Type 0
SaysDate text d = TakesWholeDay text d.year d.month d.day × IsServerDay (day_number d.year d.month d.day)

-- a day, a time of day, if any, and the era
abbrev pub TakesTimestamp : List ℕ → ℤ → ℕ → ℕ → ℕ → ℕ → ℕ → ℕ → Type 0
TakesTimestamp text year month day hour minute second fraction =
    (inside : ℤ)
    × (rest : List ℕ)
    × TakesDateTime text inside month day hour minute second fraction rest
    × TakesEra rest inside year

-- what is parsed as a timestamp, as a date and a time of day (timestamp_in)
abbrev pub SaysDateTime : List ℕ → DateTime → Type 0
SaysDateTime text dt =
    (fraction : ℕ)
    × TakesTimestamp text dt.date.year dt.date.month dt.date.day dt.time.hour dt.time.minute dt.time.second fraction
    × (dt.time.subsec_nanosecond ≡ fraction * 1000)
    × IsServerDay (day_number dt.date.year dt.date.month dt.date.day)

-- so many microseconds after 1970-01-01 00:00:00 it is that timestamp
abbrev pub SaysMicros : List ℕ → ℤ → Type 0
SaysMicros text micros =
    (year : ℤ)
    × (month day hour minute second fraction : ℕ)
    × TakesTimestamp text year month day hour minute second fraction
    × IsTimestamp year month day hour minute second fraction micros

-- TIMESTAMP (timestamp_in)
abbrev pub SaysTimestamp : List ℕ → UnixTime → Type 0
SaysTimestamp text v =
    (micros : ℤ) × SaysMicros text micros × IsServerTime micros × (nanos_of v ≡ micros *ℤ pos 1000)

-- a colon and two digits of a number below 60, or nothing, which is 0
abbrev pub TakesSixtieths : List ℕ → ℕ → List ℕ → Type 0
TakesSixtieths text n rest =
    ((n ≡ 0) × (text ≡ rest)) ⊎ ((after : List ℕ) × (text ≡ 58 ∷ after) × TakesDigits after n 2 rest × (n < 60))

-- a sign before so many seconds: plus is east of Greenwich
abbrev pub IsSigned : ℕ → ℕ → ℤ → Type 0
IsSigned sign n seconds = ((sign ≡ 43) × (seconds ≡ pos n)) ⊎ ((sign ≡ 45) × (seconds ≡ pos 0 -ℤ pos n))

-- minutes and seconds after the hours of an offset: with colons before them, or two digits of minutes
abbrev pub TakesMinutes : List ℕ → ℕ → ℕ → List ℕ → Type 0
TakesMinutes text minutes seconds rest =
    (TakesDigits text minutes 2 rest × (minutes < 60) × (seconds ≡ 0))
    ⊎ ((a : List ℕ) × TakesSixtieths text minutes a × TakesSixtieths a seconds rest)

-- a sign, two digits of hours, at most 15, and minutes and seconds, if any, as seconds (DecodeTimezone)
abbrev pub TakesSigned : List ℕ → ℤ → List ℕ → Type 0
TakesSigned text seconds rest =
    (sign hours minutes others : ℕ)
    × (a b : List ℕ)
    × (text ≡ sign ∷ a)
    × TakesDigits a hours 2 b
    × (hours ≤ 15)
    × TakesMinutes b minutes others rest
    × IsSigned sign (hours * 3600 + minutes * 60 + others) seconds

-- Z, z or UTC
abbrev pub TakesUtc : List ℕ → List ℕ → Type 0
TakesUtc text rest = (text ≡ 90 ∷ rest) ⊎ (text ≡ 122 ∷ rest) ⊎ (text ≡ codes "UTC" ++ rest)

-- an offset from UTC in seconds, after a space or none
abbrev pub TakesOffset : List ℕ → ℤ → List ℕ → Type 0
TakesOffset text seconds rest =
    (own : List ℕ)
    × ((text ≡ own) ⊎ (text ≡ 32 ∷ own))
    × ((TakesUtc own rest × (seconds ≡ pos 0)) ⊎ TakesSigned own seconds rest)

-- a timestamp with an offset before the era
abbrev pub TakesInstant : List ℕ → ℤ → ℕ → ℕ → ℕ → ℕ → ℕ → ℕ → ℤ → Type 0
TakesInstant text year month day hour minute second fraction seconds =
    (inside : ℤ)
    × (a b : List ℕ)
    × TakesDateTime text inside month day hour minute second fraction a
    × TakesOffset a seconds b
    × TakesEra b inside year

-- at so many microseconds after 1970-01-01 00:00:00 UTC, where the offset is, it is that timestamp
abbrev pub SaysUtcMicros : List ℕ → ℤ → Type 0
SaysUtcMicros text at =
    (year micros seconds : ℤ)
    × (month day hour minute second fraction : ℕ)
    × TakesInstant text year month day hour minute second fraction seconds
    × IsTimestamp year month day hour minute second fraction micros
    × (at ≡ micros -ℤ seconds *ℤ pos 1_000_000)

-- TIMESTAMPTZ (timestamptz_in)
abbrev pub SaysInstant : List ℕ → Timestamp → Type 0
SaysInstant text v = (at : ℤ) × SaysUtcMicros text at × IsServerTime at × (instant_nanos v ≡ at *ℤ pos 1000)
