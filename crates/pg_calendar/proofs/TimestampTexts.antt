-- Lemmas on the day that has a number, and on the text of a timestamp.
use Rattle.std.proofs.Common.{◌≡◌, ℕ, suc, ◌+◌, ◌-◌, ◌/◌, ◌%◌, ◌*◌, ◌<◌, ◌≤◌, List, refl, arith, ℤ, pos, ◌+ℤ◌, ◌*ℤ◌}
use Rattle.std.proofs.Common.{eq-zero-or-pos, inl, inr, subst}
use Rattle.std.specs.Int.{int_div_euclid, int_rem_euclid}
use Rattle.std.specs.Prelude.{unsigned_abs}
use Rattle.jiff_core.proofs.MarchLemmas.{month_and_day}
use Rattle.jiff_core.proofs.SignedLemmas.{signed_arith}
use Rattle.jiff_core.specs.March.{march_days}
use Rattle.pg_calendar.specs.Calendar.{IsDay, IsTimestamp, civil_day, civil_month, civil_year, day_number}
use Rattle.pg_calendar.specs.Texts.{clock_text, micros_text, timestamp_text}
use Rattle.pg_calendar.proofs.CivilDays.{day_number-early, day_number-late, day_of, is_day-early, is_day-late, month_of}
use Rattle.pg_calendar.proofs.CivilOrder.{civil_is}

-- the days of a year that begins in March, and what is left of the day's place
module _ (d : ℕ) where
  abbrev quarters : ℕ
  quarters = (4 * d + 3) % 146_097 / 4 * 4 + 3

  abbrev year : ℕ
  year = 100 * ((4 * d + 3) / 146_097) + quarters / 1_461

  abbrev rest : ℕ
  rest = quarters % 1_461 / 4

  place_is : march_days year + rest ≡ d
  place_is = omega arith

  place_within : d < march_days (year + 1)
  place_within = omega arith

  rest_bound : rest < 366
  rest_bound = omega arith

-- a day with this number is the one that is found
found : (n z : ℤ) (m d : ℕ) → IsDay z m d × (day_number z m d ≡ n) → IsDay (civil_year n) (civil_month n) (civil_day n)
    × (day_number (civil_year n) (civil_month n) (civil_day n) ≡ n)
found n z m d (day, is) =
    let same = civil_is n z m d day is in
    let one : ◌≡◌ {A = ℤ × ℕ × ℕ} (z, m, d) (civil_year n, civil_month n, civil_day n) =
    λ i. (same.0 i, same.1 i, same.2 i) in
    subst (λ (t : ℤ × ℕ × ℕ). IsDay t.0 t.1 t.2 × (day_number t.0 t.1 t.2 ≡ n)) one (day, is)

-- each number is that of a day
module _ (n c : ℤ) (d : ℕ) (cycle : c ≡ int_div_euclid n (pos 146_097))
    (place : d ≡ unsigned_abs (int_rem_euclid n (pos 146_097)) + 719_468) where
  number : c *ℤ pos 146_097 +ℤ pos d ≡ n +ℤ pos 719_468
  number = omega (arith, signed_arith)

  early : 12 < month_of (rest d) → (z : ℤ) → z ≡ c *ℤ pos 400 +ℤ pos (year d + 1)
      → IsDay z (month_of (rest d) - 12) (day_of (rest d))
      × (day_number z (month_of (rest d) - 12) (day_of (rest d)) ≡ n)
  early h z e =
      let bound = rest_bound d in
      let next : z ≡ c *ℤ pos 400 +ℤ pos (suc (year d)) = omega (arith, signed_arith) in
      let month : month_of (rest d) - 12 + 12 ≡ month_of (rest d) = omega arith in
      let within : march_days (year d) + rest d < march_days (year d + 1) = omega (arith, place_is d, place_within d) in
      let count = day_number-early z c (year d) (month_of (rest d) - 12) (day_of (rest d)) next (omega arith)
      (omega arith) (omega arith) in (
        is_day-early z c (year d) (rest d) next within bound h,
        omega (arith, signed_arith, rw month at count, month_and_day (rest d) bound, place_is d, number),
      )

  late : month_of (rest d) ≤ 12 → (z : ℤ) → z ≡ c *ℤ pos 400 +ℤ pos (year d + 0)
      → IsDay z (month_of (rest d)) (day_of (rest d))
      × (day_number z (month_of (rest d)) (day_of (rest d)) ≡ n)
  late h z e =
      let bound = rest_bound d in
      let same : z ≡ c *ℤ pos 400 +ℤ pos (year d) = omega (arith, signed_arith) in
      let count = day_number-late z c (year d) (month_of (rest d)) (day_of (rest d)) same (omega arith) h
      (omega arith) in (
        is_day-late z (rest d) h,
        omega (arith, signed_arith, count, month_and_day (rest d) bound, place_is d, number),
      )

pub civil_is_day : (n : ℤ) → IsDay (civil_year n) (civil_month n) (civil_day n)
    × (day_number (civil_year n) (civil_month n) (civil_day n) ≡ n)
civil_is_day n =
    let c = int_div_euclid n (pos 146_097) in
    let d = unsigned_abs (int_rem_euclid n (pos 146_097)) + 719_468 in
    elim (eq-zero-or-pos (month_of (rest d) - 12)) [
      | inl less ↦ found n _ _ _ (late n c d refl refl (omega arith) _ refl)
      | inr more ↦ found n _ _ _ (early n c d refl refl (omega arith) _ refl)
    ]

-- the text of a timestamp is that of its microseconds
pub text_of_timestamp : (zone : List ℕ) (year : ℤ) (month day hour minute second fraction : ℕ) (micros : ℤ)
    → IsTimestamp year month day hour minute second fraction micros
    → timestamp_text year month day (clock_text hour minute second fraction) zone ≡ micros_text zone micros
text_of_timestamp zone y m d h mi s f micros is =
    let n = int_div_euclid micros (pos 86_400_000_000) in
    let of_day = unsigned_abs (int_rem_euclid micros (pos 86_400_000_000)) in
    let number : day_number y m d ≡ n = omega (arith, signed_arith) in
    let same = civil_is n y m d is.0 number in
    let hours : h ≡ of_day / 3_600_000_000 = omega (arith, signed_arith) in
    let minutes : mi ≡ of_day / 60_000_000 % 60 = omega (arith, signed_arith) in
    let seconds : s ≡ of_day / 1_000_000 % 60 = omega (arith, signed_arith) in
    let rest : f ≡ of_day % 1_000_000 = omega (arith, signed_arith) in
    λ i. timestamp_text (same.0 i) (same.1 i) (same.2 i) (clock_text (hours i) (minutes i) (seconds i) (rest i)) zone
