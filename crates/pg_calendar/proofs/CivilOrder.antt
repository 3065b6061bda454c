-- Each day has one number, and is the day that is found for it.
use Rattle.std.proofs.Common.{◌≡◌, ℕ, zero, suc, ◌+◌, ◌-◌, ◌<◌, ◌≤◌, Bool, true, false, true≢false}
use Rattle.std.proofs.Common.{arith, refl, sym, ap, ap₂}
use Rattle.std.proofs.Common.{◌∙◌, eq-zero-or-pos, inl, inr, ℤ, pos, negsuc, ◌+ℤ◌, ◌-ℤ◌, ◌*ℤ◌, if◌then◌else◌}
use Rattle.std.proofs.lemmas.Int.{ints}
use Rattle.std.specs.Prelude.{◌≤ℤ◌, ◌<ℤ◌, int_lt, unsigned_abs}
use Rattle.std.specs.Int.{int_div_euclid, int_rem_euclid}
use Rattle.jiff_core.specs.Calendar.{IsCivilDate, day_count, days_from_civil}
use Rattle.jiff_core.proofs.CalendarLemmas.{day_count-day, day_count-lt_month, day_count-lt_year}
use Rattle.jiff_core.proofs.CalendarLemmas.{days_from_civil-day_count}
use Rattle.jiff_core.proofs.MarchLemmas.{day_count-early, day_count-late}
use Rattle.jiff_core.proofs.SignedLemmas.{signed_arith}
use Rattle.pg_calendar.specs.Calendar.{IsDay, civil_day, civil_month, civil_year, day_number, last_begun}
use Rattle.pg_calendar.proofs.CivilDays.{day_number-parts, days_in_month-cycle}
use borrow.Author.Differences.{up}

-- the days of the years 0 to 399
civil : (n m d : ℕ) → n < 400 → IsDay (pos n) m d → IsCivilDate (pos n) m d
civil n m d small h = (omega (arith, signed_arith), h.0, h.1)

-- they come after the year before
above : (n m d : ℕ) → n < 400 → IsDay (pos n) m d → 3_652_425 ≤ day_count (pos n) m d
above n m d small h =
    let place : negsuc 0 +ℤ pos 10000 ≡ pos 9999 = refl in
    let last = day_count-late (negsuc 0) 9999 12 31 place (omega arith) (omega arith) (omega arith) in
    omega (
      arith,
      last,
      day_count-lt_year (negsuc 0) 12 31 (pos n) m d
          (omega (arith, signed_arith), omega arith, omega arith) h.1.0 (omega (arith, signed_arith)),
    )

-- and before the year 400
below : (n m d : ℕ) → n < 400 → IsDay (pos n) m d → day_count (pos n) m d < 3_798_522
below n m d small h =
    let place : pos 400 +ℤ pos 10000 ≡ pos 10400 = refl in
    let first = day_count-early (pos 400) 10399 1 1 place (omega arith) (omega arith) (omega arith) in
    omega (
      arith,
      first,
      day_count-lt_year (pos n) m d (pos 400) 1 1 (civil n m d small h) (omega arith)
          (omega (arith, signed_arith)),
    )

-- the last one that begins on the day or before it, where the later ones begin after it
module _ (start : ℕ → ℤ) (day : ℤ) (k : ℕ) (begun : 1 ≤ k → int_lt day (start k) ≡ false) where
  abbrev AreLater : ℕ → Type 0
  AreLater n = (j : ℕ) → k < j → j ≤ n → int_lt day (start j) ≡ true

  last_step : (n : ℕ) (t : Bool) → int_lt day (start (suc n)) ≡ t → k ≤ suc n → AreLater (suc n)
      → (k ≤ n → last_begun start day n ≡ k) → (if t then last_begun start day n else suc n) ≡ k
  last_step n true e le later before = elim (eq-zero-or-pos (k - n)) [
    | inl less ↦ before (omega arith)
    | inr more ↦
        let same : k ≡ suc n = omega arith in
        absurd (true≢false (sym e ∙ ap (λ j. int_lt day (start j)) (sym same) ∙ begun (omega arith)))
  ]
  last_step n false e le later before = elim (eq-zero-or-pos (suc n - k)) [
    | inl none ↦ omega arith
    | inr more ↦ absurd (true≢false (sym (later (suc n) (omega arith) (omega arith)) ∙ e))
  ]

  last_begun-is : (n : ℕ) → k ≤ n → AreLater n → last_begun start day n ≡ k
  last_begun-is zero le later = omega arith
  last_begun-is (suc n) le later =
      last_step n (int_lt day (start (suc n))) refl le later
      (λ less. last_begun-is n less (λ j above within. later j above (omega arith)))

before : (a b : ℤ) (t : Bool) → int_lt a b ≡ t → a <ℤ b → t ≡ true
before a b true e h = refl
before a b false e h = absurd (omega (arith, ints))

not_before : (a b : ℤ) (t : Bool) → int_lt a b ≡ t → b ≤ℤ a → t ≡ false
not_before a b true e h = absurd (omega (arith, ints))
not_before a b false e h = refl

-- a day of the year n of a cycle, by its number
module _ (c : ℤ) (n m d : ℕ) (small : n < 400) (day : IsDay (pos n) m d) (number : ℤ)
    (is : number ≡ days_from_civil (pos n) m d +ℤ c *ℤ pos 146_097) where
  starts : (year month : ℕ) → year < 400
      → day_number (c *ℤ pos 400 +ℤ pos year) month 1 ≡ days_from_civil (pos year) month 1 +ℤ c *ℤ pos 146_097
  starts year month h = day_number-parts (c *ℤ pos 400 +ℤ pos year) c year month 1 refl h

  cycle_is : int_div_euclid (number +ℤ pos 719_528) (pos 146_097) ≡ c
  cycle_is =
      let a = above n m d small day in
      let b = below n m d small day in
      omega (arith, signed_arith, days_from_civil-day_count (pos n) m d)

  -- its month begins on it or before it
  month_begun : day_number (c *ℤ pos 400 +ℤ pos n) m 1 ≤ℤ number
  month_begun =
      let first = day_count-day (pos n) m d 1 day.1.0 (omega arith) in
      omega (
        arith,
        signed_arith,
        starts n m small,
        days_from_civil-day_count (pos n) m d,
        days_from_civil-day_count (pos n) m 1,
      )

  -- and so does its year
  year_begun : day_number (c *ℤ pos 400 +ℤ pos n) 1 1 ≤ℤ number
  year_begun = elim (eq-zero-or-pos (m - 1)) [
    | inl none ↦ let january : m ≡ 1 = omega arith in rw january at month_begun
    | inr more ↦
        let january : IsCivilDate (pos n) 1 1 = (omega (arith, signed_arith), omega arith, omega arith) in
        let later = day_count-lt_month (pos n) 1 1 m d january day.1.0 (omega arith) in
        omega (
          arith,
          signed_arith,
          starts n 1 small,
          days_from_civil-day_count (pos n) m d,
          days_from_civil-day_count (pos n) 1 1,
        )
  ]

  -- a later year begins after it
  year_later : (year : ℕ) → n < year → year ≤ 399 → number <ℤ day_number (c *ℤ pos 400 +ℤ pos year) 1 1
  year_later year more within =
      let later = day_count-lt_year (pos n) m d (pos year) 1 1 (civil n m d small day) (omega arith)
      (omega (arith, signed_arith)) in
      omega (
        arith,
        signed_arith,
        starts year 1 (omega arith),
        days_from_civil-day_count (pos n) m d,
        days_from_civil-day_count (pos year) 1 1,
      )

  -- and so does a later month
  month_later : (month : ℕ) → m < month → number <ℤ day_number (c *ℤ pos 400 +ℤ pos n) month 1
  month_later month more =
      let later = day_count-lt_month (pos n) m d month 1 (civil n m d small day) (omega arith) more in
      omega (
        arith,
        signed_arith,
        starts n month small,
        days_from_civil-day_count (pos n) m d,
        days_from_civil-day_count (pos n) month 1,
      )

  year_in_cycle : last_begun (λ year. day_number (c *ℤ pos 400 +ℤ pos year) 1 1) number 399 ≡ n
  year_in_cycle = last_begun-is (λ year. day_number (c *ℤ pos 400 +ℤ pos year) 1 1) number n
      (λ some. not_before _ _ _ refl year_begun) 399 (omega arith)
      (λ j more within. before _ _ _ refl (year_later j more within))

  month_in_year : last_begun (λ month. day_number (c *ℤ pos 400 +ℤ pos n) month 1) number 12 ≡ m
  month_in_year = last_begun-is (λ month. day_number (c *ℤ pos 400 +ℤ pos n) month 1) number m
      (λ some. not_before _ _ _ refl month_begun) 12 day.0.1 (λ j more within. before _ _ _ refl (month_later j more))

  day_in_month : unsigned_abs (number -ℤ day_number (c *ℤ pos 400 +ℤ pos n) m 1) + 1 ≡ d
  day_in_month =
      let first = day_count-day (pos n) m d 1 day.1.0 (omega arith) in
      let since : number -ℤ day_number (c *ℤ pos 400 +ℤ pos n) m 1 ≡ pos (d - 1) =
      omega (
        arith,
        signed_arith,
        starts n m small,
        days_from_civil-day_count (pos n) m d,
        days_from_civil-day_count (pos n) m 1,
      ) in
      rw since (omega arith)

  year_is : civil_year number ≡ c *ℤ pos 400 +ℤ pos n
  year_is = rw (cycle_is, year_in_cycle) refl

  month_is : civil_month number ≡ m
  month_is = rw year_is month_in_year

  day_is : civil_day number ≡ d
  day_is = ap₂ (λ year month. unsigned_abs (number -ℤ day_number year month 1) + 1) year_is month_is ∙ day_in_month

-- the cycle of a year, and its place there
whole : (z : ℤ) → z ≡ int_div_euclid z (pos 400) *ℤ pos 400 +ℤ pos (up (int_rem_euclid z (pos 400)))
whole z = omega (arith, signed_arith)

in_cycle : (z c : ℤ) (n m d : ℕ) → z ≡ c *ℤ pos 400 +ℤ pos n → IsDay z m d → IsDay (pos n) m d
in_cycle z c n m d e h = (h.0, rw (days_in_month-cycle z c n m e) at h.1)

-- a day with this number is the one that is found for it
pub civil_is : (number z : ℤ) (m d : ℕ) → IsDay z m d → day_number z m d ≡ number
    → (z ≡ civil_year number) × (m ≡ civil_month number) × (d ≡ civil_day number)
civil_is number z m d h e =
    let c = int_div_euclid z (pos 400) in
    let n = up (int_rem_euclid z (pos 400)) in
    let small : n < 400 = omega (arith, signed_arith) in
    let day = in_cycle z c n m d (whole z) h in
    let is = sym e ∙ day_number-parts z c n m d (whole z) small in (
      whole z ∙ sym (year_is c n m d small day number is),
      sym (month_is c n m d small day number is),
      sym (day_is c n m d small day number is),
    )

-- so one number is that of one day
pub day_number-one_day : (z z₂ : ℤ) (m d m₂ d₂ : ℕ) → IsDay z m d → IsDay z₂ m₂ d₂
    → day_number z m d ≡ day_number z₂ m₂ d₂ → (z ≡ z₂) × (m ≡ m₂) × (d ≡ d₂)
day_number-one_day z z₂ m d m₂ d₂ h k e =
    let one = civil_is (day_number z₂ m₂ d₂) z m d h e in
    let two = civil_is (day_number z₂ m₂ d₂) z₂ m₂ d₂ k refl in
    (one.0 ∙ sym two.0, one.1 ∙ sym two.1, one.2 ∙ sym two.2)
