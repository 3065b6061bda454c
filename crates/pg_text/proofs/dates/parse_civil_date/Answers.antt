-- What the proof of `parse_civil_date` answers by hand.
use Rattle.std.proofs.lemmas.Option.{IfSome_then}
use Rattle.pg_text.proofs.Scans.{date_said}
use Rattle.pg_text.proofs.dates.parse_civil_date.Goals as goal

pub returns : goal.returns
returns c =
    let read = c.in_ok-parse_date.field-0 in
    IfSome_then c.jiff_date.result c.jiff_date.ensures
    (λ d e. date_said c.args.text.now d read.year read.month read.day e.0 e.1 e.2 e.3 c.in_ok-parse_date.ensures)
