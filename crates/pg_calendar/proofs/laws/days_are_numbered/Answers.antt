-- What the proof of `days_are_numbered` answers by hand.
use Rattle.pg_calendar.proofs.CivilDays.{day_number-civil}
use Rattle.pg_calendar.proofs.laws.days_are_numbered.Goals as goal

pub returns : goal.returns
returns c = day_number-civil
