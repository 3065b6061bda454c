-- What the proof of `push_long_fraction` answers by hand.
use Rattle.std.proofs.Common.{◌-◌, ◌==◌, ◌∙◌, ◌++◌, ap, drop, length, arith}
use Rattle.std.specs.List.{suffix_len}
use Rattle.std.proofs.lemmas.List.{take_rest}
use Rattle.pg_calendar.specs.Texts.{padded_text}
use Rattle.pg_text.proofs.Fractions.{fraction_is}
use Rattle.pg_text.proofs.digits.push_long_fraction.Goals as goal

pub returns : goal.returns
returns c =
    let start = c.len-start.result in
    let rest = take_rest c.as_slice.result.now start ∙ ap (drop start) c.as_slice.ensures.value in
    fraction_is c.args.out.now.items c.push.new.self.items c.push_padded.new.out.items c.truncate.new.self.items
    c.args.millionths start c.len_without_zeros-len.result
    c.in_ok-push.ensures.items
    (c.in_ok-push_padded.ensures ∙ ap (λ n. c.push.new.self.items ++ padded_text 6 n) c.from.ensures)
    (omega (arith, c.len-start.ensures, c.push.new.self.ok.0))
    (c.len_without_zeros-len.ensures.value ∙ ap (λ l. length l - suffix_len (λ d. d == 48) l) rest)
    c.truncate.ensures.items
