-- What the proof of `trim_end` answers by hand.
use Rattle.std.proofs.Common.{◌≡◌, ◌≢◌, ◌-◌, ◌∙◌, sym, arith, get_or, vec_len}
use Rattle.std.proofs.lemmas.Grind.{common_steps}
use Rattle.pg_numbers.proofs.Digits.{trailing_popped, trailing_kept}
use Rattle.pg_numbers.proofs.numeric.trim_end.Goals as goal

pub loop-digits-preserved : goal.loop-digits-preserved
loop-digits-preserved c =
    let items = c.loop-digits.digits.items in
    let last : get_or items (vec_len c.loop-digits.digits - 1) 0 ≡ 0 = grind (arith, common_steps) in
    rw c.pop.ensures.rest (trailing_popped items (vec_len c.loop-digits.digits - 1) (omega arith) last
    ∙ c.loop-digits.invariant)

pub returns-in_default-2 : goal.returns-in_default-2
returns-in_default-2 c =
    let items = c.loop-digits.digits.items in
    let last : get_or items (vec_len c.loop-digits.digits - 1) 0 ≢ 0 = grind (arith, common_steps) in
    sym (trailing_kept items (vec_len c.loop-digits.digits - 1) (omega arith) last) ∙ c.loop-digits.invariant
