-- What the proof of `write_parts` answers by hand.
use Rattle.std.proofs.Common.{refl, ap, ◌∙◌, w32, w64, int_div, int_rem, pos}
use Rattle.std.proofs.Output.{has_written_append}
use Rattle.std.proofs.lemmas.Int.{to_z-of_z}
use Rattle.pg_base.specs.IntervalTexts.{after_part}
use Rattle.pg_base.proofs.interval.text.write_parts.Goals as goal

pub returns : goal.returns
returns g c = λ plain ok.
    let a = c.args in
    let all = to_z-of_z w32 a.all_months c.ranges.all_months in
    let days = to_z-of_z w32 a.days c.ranges.days in
    let micros = to_z-of_z w64 a.micros c.ranges.micros in
    let y = c.whole_years-years.result in
    let m = c.months_of_year-months.result in
    let years = to_z-of_z w32 y (record { sfits = c.whole_years-years.type_inv })
    ∙ c.whole_years-years.ensures ∙ ap (λ z. int_div z (pos 12)) all in
    let months = to_z-of_z w32 m (record { sfits = c.months_of_year-months.type_inv })
    ∙ c.months_of_year-months.ensures ∙ ap (λ z. int_rem z (pos 12)) all in
    let r1 = c.after_part-after_years.result in
    let r2 = c.after_part-after_months.result in
    let r3 = c.after_part.result in
    let e1 = to_z-of_z w32 r1 (record { sfits = c.after_part-after_years.type_inv })
    ∙ c.after_part-after_years.ensures ∙ ap (after_part (pos 0)) years in
    let e2 = to_z-of_z w32 r2 (record { sfits = c.after_part-after_months.type_inv })
    ∙ c.after_part-after_months.ensures ∙ (λ t. after_part (e1 t) (months t)) in
    let e3 = to_z-of_z w32 r3 (record { sfits = c.after_part.type_inv })
    ∙ c.after_part.ensures ∙ (λ t. after_part (e2 t) (days t)) in
    let p1 = rw years at c.in_ok-write_part.ensures plain refl in
    let p2 = rw (e1, months) at c.in_ok-write_part-2.ensures p1.plain refl in
    let p3 = rw (e2, days) at c.in_ok-write_part-3.ensures p2.plain refl in
    let p4 = rw (e3, micros) at c.write_last.ensures p3.plain ok in
    has_written_append _ _ _ _ _ _ p1
    (has_written_append _ _ _ _ _ _ p2 (has_written_append _ _ _ _ _ _ p3 p4))
