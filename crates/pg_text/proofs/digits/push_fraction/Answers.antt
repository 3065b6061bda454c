-- What the proof of `push_fraction` answers by hand.
use Rattle.std.proofs.Common.{◌≡◌, ◌∙◌, ◌+◌, ◌++◌, ap, arith, length, take}
use Rattle.std.proofs.Math.Seq.{take-append-add}
use Rattle.std.proofs.lemmas.Bool.{ne_eqb}
use Rattle.pg_calendar.specs.Texts.{padded_text, without_zeros}
use Rattle.pg_text.proofs.Fractions.{point_stays}
use Rattle.pg_text.proofs.digits.push_fraction.Goals as goal

pub returns : goal.returns
returns c =
    let old = c.args.out.now.items in
    let text = c.in-Some.text in
    let n = c.len_without_zeros.result in
    let at : c.len.result ≡ length old = omega (arith, c.len.ensures, c.args.out.now.ok.0) in
    rw (ne_eqb c.args.millionths 0 c.if-millionths-eq0.false)
    (c.truncate.ensures.items ∙ (λ i. take (at i + n) (c.in_ok-extend_from_slice.ensures.items i))
    ∙ take-append-add old text n ∙ ap (λ k. old ++ take k text) c.len_without_zeros.ensures.value
    ∙ ap (λ t. old ++ without_zeros t) c.in-Some.ensures
    ∙ ap (λ t. old ++ t) (point_stays (padded_text 6 c.args.millionths)))
