-- What the proof of `parse_civil_time` answers by hand.
use Rattle.std.proofs.lemmas.Option.{IfSome_then}
use Rattle.pg_text.proofs.Scans.{time_said}
use Rattle.pg_text.proofs.dates.parse_civil_time.Goals as goal

pub returns : goal.returns
returns c =
    let read = c.in_ok-parse_clock.field-0 in
    IfSome_then c.jiff_time.result c.jiff_time.ensures
    (λ t e. time_said c.args.text.now t read.hour read.minute read.second read.micros e.0 e.1 e.2 e.3
    c.in_ok-parse_clock.ensures)
