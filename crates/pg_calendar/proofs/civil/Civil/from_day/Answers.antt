-- What the proof of `from_day` answers by hand.
use Rattle.std.proofs.Common.{arith, ◌≡◌, ◌+◌, ◌-◌, w64, ℤ, pos, ◌+ℤ◌, ◌*ℤ◌, to_z, of_z}
use Rattle.jiff_core.proofs.MarchLemmas.{month_and_day}
use Rattle.jiff_core.proofs.SignedLemmas.{signed_arith, signed_casts}
use Rattle.pg_calendar.proofs.CivilDays.{day_number-early, day_number-late, day_of, is_day-early, is_day-late, month_of}
use Rattle.pg_calendar.proofs.civil.Civil.from_day.Goals as goal

-- the year, as the code computes it
abbrev year_in : ℤ → ℤ → ℤ
year_in cycles years =
    to_z w64 (of_z w64 (to_z w64 (of_z w64 (to_z w64 (of_z w64 cycles) *ℤ pos 400)) +ℤ to_z w64 (of_z w64 years)))

-- and the year after
abbrev next_in : ℤ → ℤ → ℤ
next_in cycles years = to_z w64 (of_z w64 (year_in cycles years +ℤ pos 1))

pub overflow_add-year : goal.overflow_add-year
overflow_add-year c = omega (arith, signed_arith)

pub overflow_add-year-then-month-gt12 : goal.overflow_add-year-then-month-gt12
overflow_add-year-then-month-gt12 c = omega (arith, signed_arith)

pub returns-then-month-gt12-clause-civil : goal.returns-then-month-gt12-clause-civil
returns-then-month-gt12-clause-civil c =
    let n = c.year_from_march-year.result.1 in
    let y = c.year_from_march-year.result.0 in
    let k = c.div_euclid.result in
    let bound = c.year_from_march-year.ensures.bound in
    is_day-early (next_in k c.from.result) k y n (omega (arith, signed_arith)) (omega arith) bound
    c.if-month-gt12.true

pub returns-else-month-gt12-clause-civil : goal.returns-else-month-gt12-clause-civil
returns-else-month-gt12-clause-civil c =
    is_day-late (year_in c.div_euclid.result c.from.result) c.year_from_march-year.result.1 c.if-month-gt12.false

pub returns-then-month-gt12-clause-value : goal.returns-then-month-gt12-clause-value
returns-then-month-gt12-clause-value c =
    let n = c.year_from_march-year.result.1 in
    let y = c.year_from_march-year.result.0 in
    let k = c.div_euclid.result in
    let month : month_of n - 12 + 12 ≡ month_of n = omega arith in
    let number = day_number-early (next_in k c.from.result) k y (month_of n - 12) (day_of n)
    (omega (arith, signed_arith)) (omega arith) (omega arith) (omega arith) in
    omega (arith, signed_casts, rw month at number, month_and_day n c.year_from_march-year.ensures.bound)

pub returns-else-month-gt12-clause-value : goal.returns-else-month-gt12-clause-value
returns-else-month-gt12-clause-value c =
    let n = c.year_from_march-year.result.1 in
    let y = c.year_from_march-year.result.0 in
    let k = c.div_euclid.result in
    let number = day_number-late (year_in k c.from.result) k y (month_of n) (day_of n) (omega (arith, signed_arith))
    (omega arith) (omega arith) (omega arith) in
    omega (arith, signed_casts, number, month_and_day n c.year_from_march-year.ensures.bound)
