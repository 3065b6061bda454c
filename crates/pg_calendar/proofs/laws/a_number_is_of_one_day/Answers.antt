-- What the proof of `a_number_is_of_one_day` answers by hand.
use Rattle.pg_calendar.proofs.CivilOrder.{day_number-one_day}
use Rattle.pg_calendar.proofs.laws.a_number_is_of_one_day.Goals as goal

pub returns : goal.returns
returns c y₁ y₂ m₁ d₁ m₂ d₂ = day_number-one_day y₁ y₂ m₁ d₁ m₂ d₂
