-- What the proof of `without_zeros` answers by hand.
use Rattle.std.proofs.Common.{◌-◌, ◌∙◌, ℕ, ap, arith, drop, length}
use Rattle.std.proofs.lemmas.List.{length-drop, take_all}
use Rattle.pg_numbers.proofs.numeric.text.without_zeros.Goals as goal

pub returns : goal.returns
returns c =
    let xs = c.args.digits.now in
    let n = c.leading_zeros.result in
    take_all (length xs - n) (drop n xs) (omega (arith, length-drop {A = ℕ})) ∙ ap (λ k. drop k xs) c.leading_zeros.ensures.count
