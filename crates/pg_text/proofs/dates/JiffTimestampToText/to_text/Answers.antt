-- What the proof of `to_text` answers by hand.
use Rattle.std.proofs.Common.{◌++◌, ap, ◌∙◌}
use Rattle.std.specs.Prelude.{codes}
use Rattle.pg_calendar.proofs.Outcomes.{OnOk_then}
use Rattle.pg_calendar.proofs.TimestampTexts.{text_of_timestamp}
use Rattle.pg_text.proofs.dates.JiffTimestampToText.to_text.Goals as goal

pub returns : goal.returns
returns c =
    let at = c.datetime_of.result in
    let text = text_of_timestamp (codes "+00") at.date.year at.date.month at.date.day at.clock.hour at.clock.minute
    at.clock.second at.clock.micros _ c.datetime_of.ensures in
    OnOk_then c.push_datetime.result c.push_datetime.ensures (λ e. e ∙ ap (λ t. c.args.out.now.items ++ t) text)
