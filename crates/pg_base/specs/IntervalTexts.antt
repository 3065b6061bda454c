-- The text of an interval, with IntervalStyle postgres (EncodeInterval).
use Rattle.std.specs.Prelude.{ℕ, ◌/◌, ◌%◌, ◌==◌, ◌||◌, ℤ, pos, List, [], ◌++◌, Bool, codes, not}
use Rattle.std.specs.Prelude.{if◌then◌else◌, int_div, int_rem, unsigned_abs}
use Rattle.std.specs.Fmt.{decimal}
use Rattle.std.specs.Int.{is_negative}
use Rattle.pg_base.specs.declared.interval.Interval.{Interval}
use Rattle.pg_calendar.specs.Texts.{clock_text}

-- a space after a part; 0 stands for no part
abbrev pub space_after : ℤ → List ℕ
space_after before = if unsigned_abs before == 0 then [] else codes " "

-- the sign of a part: `-`, or `+` where the part before it is negative (AddPostgresIntPart)
abbrev pub sign_text : ℤ → Bool → List ℕ
sign_text before negative =
    space_after before ++ (if negative then codes "-" else if is_negative before then codes "+" else [])

-- a number and its unit, which may be plural (AddPostgresIntPart)
abbrev pub plural_text : ℤ → List ℕ
plural_text n = if is_negative n || not (unsigned_abs n == 1) then codes "s" else []

abbrev pub count_text : ℤ → List ℕ → List ℕ
count_text n unit = decimal (unsigned_abs n) ++ (codes " " ++ (unit ++ plural_text n))

-- a part, which is left out if it is 0
abbrev pub part_text : ℤ → ℤ → List ℕ → List ℕ
part_text before n unit = if unsigned_abs n == 0 then [] else sign_text before (is_negative n) ++ count_text n unit

-- the part before the next one: this one, unless it is left out
abbrev pub after_part : ℤ → ℤ → ℤ
after_part before n = if unsigned_abs n == 0 then before else n

-- hours, minutes and seconds (AppendSeconds)
abbrev pub hours_text : ℕ → List ℕ
hours_text micros =
    let seconds = micros / 1_000_000 in
    clock_text (seconds / 3_600) (seconds / 60 % 60) (seconds % 60) (micros % 1_000_000)

-- hours, minutes and seconds with their sign
abbrev pub time_text : ℤ → ℤ → List ℕ
time_text before n = sign_text before (is_negative n) ++ hours_text (unsigned_abs n)

-- the time, which is written also if all parts are 0
abbrev pub last_text : ℤ → ℤ → List ℕ
last_text before n = if unsigned_abs before == 0 || not (unsigned_abs n == 0) then time_text before n else []

-- years, months, days and the time
abbrev pub parts_text : ℤ → ℤ → ℤ → List ℕ
parts_text all_months days micros =
    let years = int_div all_months (pos 12) in
    let months = int_rem all_months (pos 12) in
    let after_years = after_part (pos 0) years in
    let after_months = after_part after_years months in
    let after_days = after_part after_months days in
    part_text (pos 0) years (codes "year") ++ (part_text after_years months (codes "mon")
    ++ (part_text after_months days (codes "day") ++ last_text after_days micros))

-- INTERVAL (interval_out)
abbrev pub interval_text : Interval → List ℕ
interval_text i = parts_text i.months i.days i.microseconds
