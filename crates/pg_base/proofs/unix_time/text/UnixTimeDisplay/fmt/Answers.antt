-- What the proof of `UnixTime`'s `fmt` answers by hand.
use Rattle.std.proofs.Common.{[], ◌≡◌, ap, ◌∙◌, arith, rules, w64, ◌/◌, pos, ◌+ℤ◌, ◌*ℤ◌, to_z, of_z}
use Rattle.std.specs.Int.{int_div_euclid}
use Rattle.jiff_core.proofs.SignedLemmas.{signed_casts}
use Rattle.pg_base.specs.Timestamps.{nanos_of}
use Rattle.pg_calendar.specs.Texts.{micros_text}
use Rattle.pg_calendar.proofs.TimestampTexts.{text_of_timestamp}
use Rattle.pg_base.proofs.unix_time.text.UnixTimeDisplay.fmt.Goals as goal

pub returns-clause-writes : goal.returns-clause-writes
returns-clause-writes g c = λ plain ok.
    let v = c.args.self.now in
    let at = c.new.result in
    let secs : to_z w64 (of_z w64 v.secs) ≡ v.secs = search rules in
    let whole : v.secs *ℤ pos 1_000_000 +ℤ pos (v.nanos / 1_000) ≡ int_div_euclid (nanos_of v) (pos 1000) =
    omega (arith, signed_casts) in
    let text = text_of_timestamp [] at.date.year at.date.month at.date.day at.clock.hour at.clock.minute
    at.clock.second at.clock.micros _ c.new.ensures in
    rw (text ∙ ap (micros_text []) (ap (λ s. s *ℤ pos 1_000_000 +ℤ pos (v.nanos / 1_000)) secs ∙ whole))
    at c.write_timestamp.ensures plain ok
