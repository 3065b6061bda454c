-- What the proof of `write_instant` answers by hand.
use Rattle.std.specs.Prelude.{codes}
use Rattle.pg_calendar.proofs.TimestampTexts.{text_of_timestamp}
use Rattle.pg_base.proofs.special.text.write_instant.Goals as goal

pub returns : goal.returns
returns g c = λ plain ok.
    let at = c.datetime_of.result in
    let text = text_of_timestamp (codes "+00") at.date.year at.date.month at.date.day at.clock.hour at.clock.minute
    at.clock.second at.clock.micros _ c.datetime_of.ensures in
    rw text at c.write_timestamp.ensures plain ok
