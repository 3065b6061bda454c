-- The texts of dates, times of day and timestamps, with DateStyle ISO and TimeZone UTC.
use Rattle.std.specs.Prelude.{ℕ, ◌/◌, pos, List, [], codes, int_div}
use Rattle.std.specs.Int.{int_div_euclid}
use Rattle.jiff.specs.Types.{Date, DateTime, Time, Timestamp}
use Rattle.pg_calendar.specs.Texts.{clock_text, date_text, micros_text, timestamp_text}
use Rattle.pg_base.specs.declared.unix_time.UnixTime.{UnixTime}
use Rattle.pg_base.specs.Civil.{instant_nanos}
use Rattle.pg_base.specs.Special.{Special, pos_infinity, neg_infinity, value}
use Rattle.pg_base.specs.Timestamps.{nanos_of}

-- DATE (date_out)
abbrev pub civil_date_text : Date → List ℕ
civil_date_text d = date_text d.year d.month d.day

-- TIME (time_out), truncated to microseconds
abbrev pub civil_time_text : Time → List ℕ
civil_time_text t = clock_text t.hour t.minute t.second (t.subsec_nanosecond / 1000)

-- TIMESTAMP (timestamp_out)
abbrev pub civil_datetime_text : DateTime → List ℕ
civil_datetime_text dt = timestamp_text dt.date.year dt.date.month dt.date.day (civil_time_text dt.time) []

-- TIMESTAMP (timestamp_out), rounded down to microseconds
abbrev pub unix_time_text : UnixTime → List ℕ
unix_time_text v = micros_text [] (int_div_euclid (nanos_of v) (pos 1000))

-- TIMESTAMPTZ, in UTC (timestamptz_out), truncated to microseconds toward 1970-01-01
abbrev pub instant_text : Timestamp → List ℕ
instant_text v = micros_text (codes "+00") (int_div (instant_nanos v) (pos 1000))

-- an infinity is a word (date_out, timestamp_out, timestamptz_out), and a finite value has the text of the value inside
abbrev pub special_text : {A : Type 0} → (A → List ℕ) → Special A → List ℕ
special_text text pos_infinity = codes "infinity"
special_text text neg_infinity = codes "-infinity"
special_text text (value v) = text v
