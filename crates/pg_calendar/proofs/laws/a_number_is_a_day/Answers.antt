-- What the proof of `a_number_is_a_day` answers by hand.
use Rattle.pg_calendar.proofs.TimestampTexts.{civil_is_day}
use Rattle.pg_calendar.proofs.laws.a_number_is_a_day.Goals as goal

pub returns : goal.returns
returns c = civil_is_day
