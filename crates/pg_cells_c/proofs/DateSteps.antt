-- Steps of timestamps' parts.
use Rattle.std.specs.Prelude.{◌≡◌, ℤ, pos, ◌+ℤ◌, ◌-ℤ◌, ◌*ℤ◌, refl}
use Rattle.std.specs.Int.{w32, w64}
use Rattle.std.proofs.Common.{arith}
use Rattle.jiff_core.proofs.SignedLemmas.{signed_arith}
use Rattle.pg_base.specs.Civil.{base_day}
use Rattle.pg_calendar.specs.Calendar.{day_number, micros_of_day, micros_per_day}
use Rattle.pg_cells_c.specs.DateParts.{IsDate, IsFinite, IsOfDay, IsTime, IsTimestampOf}
use Rattle.pg_cells_c.specs.declared.date_parts.DateParts.{DateParts}
use Rattle.pg_cells_c.specs.declared.date_parts.TimestampParts.{TimestampParts}

-- what has no time of day is no timestamp
pub no_time : (v : TimestampParts) → ((z : ℤ) → IsOfDay z → IsTime v.time z → ⊥) → (z : ℤ) → IsFinite w64 z
    → IsTimestampOf v z → ⊥
no_time v none z finite is =
    let n = micros_of_day v.time.hour v.time.minute v.time.second v.time.microsecond in
    none (pos n) (omega (arith, signed_arith), omega (arith, signed_arith)) (is.1.1, is.1.2, is.1.3, refl)

-- what is no finite number has no date
pub no_date : (v : DateParts) (day : ℤ) → day ≡ day_number v.year v.month v.day
    → ((z : ℤ) → IsFinite w32 z → z ≡ (day -ℤ base_day) → ⊥) → (z : ℤ) → IsFinite w32 z → IsDate v z → ⊥
no_date v day days none z finite is =
    let same = is.1 in none z finite (omega (arith, signed_arith, days, same))

-- what is no finite number has no timestamp
pub no_finite : (v : TimestampParts) (day time : ℤ) → day ≡ day_number v.date.year v.date.month v.date.day
    → time ≡ pos (micros_of_day v.time.hour v.time.minute v.time.second v.time.microsecond)
    → ((z : ℤ) → IsFinite w64 z → z ≡ ((day -ℤ base_day) *ℤ micros_per_day +ℤ time) → ⊥) → (z : ℤ) → IsFinite w64 z
    → IsTimestampOf v z → ⊥
no_finite v day time days micros none z finite is =
    let same = is.2 in none z finite (omega (arith, signed_arith, days, micros, same))
