-- What the proof of `to_text` answers by hand.
use Rattle.std.proofs.Common.{[], ◌≡◌, ◌++◌, ap, ◌∙◌, arith, rules, w64, ◌/◌, pos, ◌+ℤ◌, ◌*ℤ◌, to_z, of_z}
use Rattle.std.specs.Int.{int_div_euclid}
use Rattle.jiff_core.proofs.SignedLemmas.{signed_casts}
use Rattle.postgres_types.specs.Timestamps.{nanos_of}
use Rattle.pg_calendar.proofs.Outcomes.{OnOk_then}
use Rattle.pg_calendar.proofs.TimestampTexts.{text_of_timestamp}
use Rattle.pg_calendar.specs.Texts.{micros_text}
use Rattle.pg_text.proofs.dates.UnixTimeToText.to_text.Goals as goal

pub returns : goal.returns
returns c =
    let v = c.args.self.now in
    let at = c.new.result in
    let nanos = c.nanos.ensures.within_second in
    let same : c.nanos.result ≡ v.nanos = c.nanos.ensures.value in
    let secs : to_z w64 (of_z w64 c.secs.result) ≡ v.secs = search rules in
    let whole : v.secs *ℤ pos 1_000_000 +ℤ pos (v.nanos / 1_000) ≡ int_div_euclid (nanos_of v) (pos 1000) =
    omega (arith, signed_casts) in
    let text = text_of_timestamp [] at.date.year at.date.month at.date.day at.clock.hour at.clock.minute
    at.clock.second at.clock.micros _ c.new.ensures in
    let micros = text ∙ ap (micros_text [])
    ((λ t. secs t *ℤ pos 1_000_000 +ℤ pos (same t / 1_000)) ∙ whole) in
    OnOk_then c.push_datetime.result c.push_datetime.ensures (λ e. e ∙ ap (λ t. c.args.out.now.items ++ t) micros)
