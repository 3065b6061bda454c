-- What the proof of `to_day` answers by hand.
use Rattle.std.proofs.Common.{rules, arith, ap, ℕ, ◌≤◌, ◌≡◌, ◌+◌, ◌-◌, ◌*◌, ◌/◌, w64, pos, ◌+ℤ◌, ◌-ℤ◌, ◌*ℤ◌, to_z, of_z}
use Rattle.std.specs.Int.{IsInRange}
use Rattle.jiff_core.proofs.CalendarLemmas.{days_in_month_bounds}
use Rattle.jiff_core.proofs.SignedLemmas.{signed_casts}
use Rattle.pg_calendar.specs.Calendar.{IsDay, day_number}
use Rattle.pg_calendar.proofs.CivilDays.{day_number-early, day_number-late, is_day-tested}
use Rattle.pg_calendar.proofs.Outcomes.{MatchOption_then}
use Rattle.pg_calendar.proofs.civil.Civil.to_day.Goals as goal
use Rattle.pg_calendar.proofs.civil.Civil.to_day.Goals.{After-div_euclid, then-month-gt2, else-month-gt2}

-- the year comes back from its bits
same : (c : goal.Joined-month-gt2) → to_z w64 (of_z w64 c.args.self.year) ≡ c.args.self.year
same c = search rules

-- the test at the beginning
is_day : (c : goal.Joined-month-gt2) → IsDay c.args.self.year c.args.self.month c.args.self.day
is_day c =
    let e = rw (same c) at c.days_in_month.ensures in
    is_day-tested c.args.self.year c.args.self.month c.args.self.day c.days_in_month.result e c.if-day-eq0.false
    c.if-day-days_in_month.false

-- the parts of a year that begins in March are small
bounds : (c : goal.Joined-month-gt2)
    → (c.if-month-gt2.year_of_cycle.0 ≤ 800) × IsInRange 3 14 c.if-month-gt2.year_of_cycle.1 × (c.args.self.day ≤ 31)
bounds c =
    let day = is_day c in
    let long = days_in_month_bounds c.args.self.year c.args.self.month in
    elim c.if-month-gt2.branch [
      | then-month-gt2 w ↦
          let e = ap (λ p. p.0) w.year_of_cycle-is in
          let f = ap (λ p. p.1) w.year_of_cycle-is in
          omega (arith, signed_casts)
      | else-month-gt2 w ↦
          let e = ap (λ p. p.0) w.year_of_cycle-is in
          let f = ap (λ p. p.1) w.year_of_cycle-is in
          omega (arith, signed_casts)
    ]

pub overflow_add-days-2 : goal.overflow_add-days-2
overflow_add-days-2 c = let b = bounds c in omega arith

pub overflow_add-days-3 : goal.overflow_add-days-3
overflow_add-days-3 c = let b = bounds c in omega arith

-- the number in its cycle, as the code computes it from the year, the month and the day
abbrev in_cycle : ℕ × ℕ → ℕ → ℕ
in_cycle y day = y.0 * 365 + (y.0 / 4 - y.0 / 100 + y.0 / 400) + (153 * y.1 - 457) / 5 + day

-- and the number of the day
number : (c : After-div_euclid)
    → c.div_euclid.result *ℤ pos 146_097 +ℤ pos (in_cycle c.if-month-gt2.year_of_cycle c.args.self.day) -ℤ pos 865_566
    ≡ day_number c.args.self.year c.args.self.month c.args.self.day
number c =
    let day = is_day c.before in
    let k = c.div_euclid.result -ℤ pos 1 in
    let z = c.args.self.year in
    let back = same c.before in
    elim c.if-month-gt2.branch [
      | then-month-gt2 w ↦
          let e = ap (λ p. p.0) w.year_of_cycle-is in
          let f = ap (λ p. p.1) w.year_of_cycle-is in
          omega (
            arith,
            signed_casts,
            day_number-late z k c.if-month-gt2.year_of_cycle.0 c.args.self.month
                c.args.self.day (omega (arith, signed_casts)) (omega arith) (omega arith) (omega arith),
          )
      | else-month-gt2 w ↦
          let e = ap (λ p. p.0) w.year_of_cycle-is in
          let f = ap (λ p. p.1) w.year_of_cycle-is in
          omega (
            arith,
            signed_casts,
            day_number-early z k c.if-month-gt2.year_of_cycle.0 c.args.self.month
                c.args.self.day (omega (arith, signed_casts)) (omega arith) (omega arith) (omega arith),
          )
    ]

pub returns : goal.returns
returns c =
    let cycle : to_z w64 (of_z w64 c.div_euclid.result) ≡ c.div_euclid.result = search rules in
    let clause = rw (number c.before) at (rw cycle at c.day_of_cycle.ensures) in
    MatchOption_then c.day_of_cycle.result clause (λ h k. h) (λ n e. (is_day c.before.before, e))
