-- Lemmas on the calendar's days, through years that begin in March.
use Rattle.std.proofs.Common.{◌≡◌, ℕ, suc, ◌+◌, ◌-◌, ◌*◌, ◌/◌, ◌%◌, ◌<◌, ◌≤◌, ◌&&◌, if◌then◌else◌, nat_lt, refl, arith}
use Rattle.std.proofs.Common.{eq-zero-or-pos, inl, inr, ℤ, pos, negsuc, ◌+ℤ◌, ◌-ℤ◌, ◌*ℤ◌}
use Rattle.std.proofs.lemmas.Bool.Decides.{nat_tests}
use Rattle.std.specs.Int.{int_div_euclid, int_rem_euclid}
use Rattle.jiff_core.specs.Calendar.{IsCivilDate, days_from_civil, days_in_month, is_leap_year}
use Rattle.jiff_core.specs.March.{march_days, march_months}
use Rattle.jiff_core.proofs.CalendarLemmas.{days_from_civil-day_count}
use Rattle.jiff_core.proofs.MarchLemmas.{day_count-early, day_count-late, day_in_early_month, day_in_month, leap_day}
use Rattle.jiff_core.proofs.MarchLemmas.{march_days-suc}
use Rattle.jiff_core.proofs.SignedLemmas.{signed_arith}
use Rattle.pg_calendar.specs.Calendar.{IsDay, day_number}
use borrow.Author.Differences.{up, down}

-- the rule of leap years does not change when years are counted from a multiple of 400
pub is_leap_year-cycle : (z c : ℤ) (n : ℕ) → z ≡ c *ℤ pos 400 +ℤ pos n → is_leap_year z ≡ is_leap_year (pos n)
is_leap_year-cycle (pos a) c n e =
    let h : a + 400 * down c ≡ 400 * up c + n = omega (arith, signed_arith) in
    let x : a % 4 ≡ n % 4 = omega arith in
    let y : a % 100 ≡ n % 100 = omega arith in
    let w : a % 400 ≡ n % 400 = omega arith in
    rw (x, y, w) refl
is_leap_year-cycle (negsuc a) c n e =
    let h : n + suc a + 400 * up c ≡ 400 * down c = omega (arith, signed_arith) in
    grind (arith, nat_tests)

pub march_days-cycle : (t n : ℕ) → march_days (400 * t + n) ≡ 146_097 * t + march_days n
march_days-cycle t n = omega arith

pub days_in_month-cycle : (z c : ℤ) (n m : ℕ) → z ≡ c *ℤ pos 400 +ℤ pos n → days_in_month z m ≡ days_in_month (pos n) m
days_in_month-cycle z c n m e = rw (is_leap_year-cycle z c n e) refl

-- a day's number by the cycle of 400 years that its year is of, and the days from the cycle's first 1 January
pub day_number-parts : (z c : ℤ) (n m d : ℕ) → z ≡ c *ℤ pos 400 +ℤ pos n → n < 400
    → day_number z m d ≡ days_from_civil (pos n) m d +ℤ c *ℤ pos 146_097
day_number-parts z c n m d e h =
    let q : int_div_euclid z (pos 400) ≡ c = omega (arith, signed_arith) in
    let r : int_rem_euclid z (pos 400) ≡ pos n = omega (arith, signed_arith) in
    rw (q, r) refl

-- the number of a day from March on, by years that begin in March, counted from a multiple of 400
pub day_number-late : (z c : ℤ) (n m d : ℕ) → z ≡ c *ℤ pos 400 +ℤ pos n → 3 ≤ m → m ≤ 12 → 1 ≤ d
    → day_number z m d +ℤ pos 719_469 ≡ c *ℤ pos 146_097 +ℤ pos (march_days n + march_months m + d)
day_number-late z c n m d e low high first =
    let t = n / 400 in
    let r = n % 400 in
    let parts = day_number-parts z (c +ℤ pos t) r m d (omega (arith, signed_arith)) (omega arith) in
    let count = day_count-late (pos r) (r + 10000) m d refl low high first in
    let back : 400 * t + r ≡ n = omega arith in
    let years = march_days-cycle t r in
    let start : march_days (r + 10000) ≡ march_days r + 3_652_425 = omega arith in
    omega (arith, signed_arith, parts, count, start, rw back at years, days_from_civil-day_count (pos r) m d)

-- and that of one before March, which is of the year before
pub day_number-early : (z c : ℤ) (n m d : ℕ) → z ≡ c *ℤ pos 400 +ℤ pos (suc n) → 1 ≤ m → m ≤ 2 → 1 ≤ d
    → day_number z m d +ℤ pos 719_469 ≡ c *ℤ pos 146_097 +ℤ pos (march_days n + march_months (m + 12) + d)
day_number-early z c n m d e low high first =
    let t = suc n / 400 in
    let r = suc n % 400 in
    let parts = day_number-parts z (c +ℤ pos t) r m d (omega (arith, signed_arith)) (omega arith) in
    let count = day_count-early (pos r) (r + 9999) m d (omega (arith, signed_arith)) low high first in
    let start : march_days (r + 9999) + 146_097 * t ≡ march_days n + 3_652_425 = omega arith in
    omega (arith, signed_arith, parts, count, start, days_from_civil-day_count (pos r) m d)

-- a day of a year that begins in March, as a month from 3 to 14 and a day of that month
abbrev pub month_of : ℕ → ℕ
month_of n = (5 * n + 461) / 153

abbrev pub day_of : ℕ → ℕ
day_of n = (5 * n + 461) % 153 / 5 + 1

pub is_day-late : (z : ℤ) (n : ℕ) → month_of n ≤ 12 → IsDay z (month_of n) (day_of n)
is_day-late z n h = let low = day_in_month z n h in omega arith

pub is_day-early : (z c : ℤ) (y n : ℕ) → z ≡ c *ℤ pos 400 +ℤ pos (suc y) → march_days y + n < march_days (y + 1)
    → n < 366 → 12 < month_of n → IsDay z (month_of n - 12) (day_of n)
is_day-early z c y n e within bound h =
    let next : y + 1 ≡ suc y = omega arith in
    let small : n < 365 + leap_day (pos (suc y)) = omega (arith, march_days-suc y) in
    let inside = day_in_early_month (pos (suc y)) n h small in
    let same = days_in_month-cycle z c (suc y) (month_of n - 12) e in
    omega arith

-- what the code tests of a day: 0 stands for the days of a month that there is not
pub is_day-tested : (z : ℤ) (m d n : ℕ) → n ≡ (if nat_lt 0 m && nat_lt m 13 then days_in_month z m else 0) → (d ≡ 0 → ⊥)
    → d ≤ n → IsDay z m d
is_day-tested z m d n e some h = grind (arith, nat_tests)

-- from -9999-01-01 to 9999-12-31 a day's number is the one that the kit defines
pub day_number-civil : (z : ℤ) (m d : ℕ) → IsCivilDate z m d → day_number z m d ≡ days_from_civil z m d
day_number-civil z m d h =
    let number = days_from_civil-day_count z m d in
    elim (eq-zero-or-pos (3 - m)) [
      | inl late ↦
          let c = int_div_euclid z (pos 400) in
          let r = up (int_rem_euclid z (pos 400)) in
          let here = day_number-late z c r m d (omega (arith, signed_arith)) (omega arith) h.1.1 h.2.0 in
          let t = up c + 25 - down c in
          let count = day_count-late z (400 * t + r) m d (omega (arith, signed_arith)) (omega arith) h.1.1 h.2.0 in
          omega (arith, signed_arith, here, count, number, march_days-cycle t r)
      | inr early ↦
          let c = int_div_euclid (z -ℤ pos 1) (pos 400) in
          let r = up (int_rem_euclid (z -ℤ pos 1) (pos 400)) in
          let here = day_number-early z c r m d (omega (arith, signed_arith)) h.1.0 (omega arith) h.2.0 in
          let t = up c + 25 - down c in
          let count = day_count-early z (400 * t + r) m d (omega (arith, signed_arith)) h.1.0 (omega arith) h.2.0 in
          omega (arith, signed_arith, here, count, number, march_days-cycle t r)
    ]
