-- What the proof of `parse_civil` answers by hand.
use Rattle.std.proofs.Common.{ap, sym, ◌∙◌}
use Rattle.pg_text.proofs.Scans.{same_day, same_timestamp}
use Rattle.pg_text.proofs.dates.parse_civil.Goals as goal

pub returns : goal.returns
returns c =
    let read = c.in_ok-datetime in
    let date = c.in_ok-date.ensures in
    let time = c.in_ok-time.ensures in
    let same_date = c.to_datetime.ensures.date in
    let same_time = c.to_datetime.ensures.time in
    let year = ap (λ d. d.year) same_date ∙ date.0 in
    let month = ap (λ d. d.month) same_date ∙ date.1 in
    let day = ap (λ d. d.day) same_date ∙ date.2 in
    let hour = ap (λ t. t.hour) same_time ∙ time.0 in
    let minute = ap (λ t. t.minute) same_time ∙ time.1 in
    let second = ap (λ t. t.second) same_time ∙ time.2 in (
      read.datetime.clock.micros,
      same_timestamp c.args.text.now _ _ _ _ _ _ _ _ _ _ _ _ _ (sym year) (sym month) (sym day) (sym hour)
          (sym minute) (sym second) read.ensures,
      ap (λ t. t.subsec_nanosecond) same_time ∙ time.3,
      same_day _ _ _ _ _ _ (sym year) (sym month) (sym day) date.3,
    )
