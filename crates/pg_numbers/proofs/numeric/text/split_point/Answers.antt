-- What the proof of `split_point` answers by hand.
use Rattle.std.proofs.Common.{◌≡◌, ◌-◌, ◌∙◌, ℕ, [], ap, arith, drop, length, sym, take}
use Rattle.std.proofs.lemmas.List.{length-drop, nil_from_length, take_all}
use Rattle.pg_numbers.proofs.numeric.text.split_point.Goals as goal

pub returns-in_default-empty-clause-integer : goal.returns-in_default-empty-clause-integer
returns-in_default-empty-clause-integer c =
    c.split_at.ensures.front ∙ ap (λ k. take k c.args.text.now) c.point_of.ensures.place

pub returns-in_default-empty-clause-decimals : goal.returns-in_default-empty-clause-decimals
returns-in_default-empty-clause-decimals c =
    let xs = c.args.text.now in
    let none : drop c.point_of.result xs ≡ [] =
    nil_from_length (drop c.point_of.result xs)
    (omega (arith, ap length c.split_at.ensures.back, c.in_default-empty.len_below)) in
    sym (ap (λ k. drop 1 (drop k xs)) (sym c.point_of.ensures.place) ∙ ap (drop 1) none)

pub returns-in_default-len1-up-clause-integer : goal.returns-in_default-len1-up-clause-integer
returns-in_default-len1-up-clause-integer c =
    c.split_at.ensures.front ∙ ap (λ k. take k c.args.text.now) c.point_of.ensures.place

pub returns-in_default-len1-up-clause-decimals : goal.returns-in_default-len1-up-clause-decimals
returns-in_default-len1-up-clause-decimals c =
    let xs = c.args.text.now in
    let back = c.split_at.result.1.now in
    take_all (length back - 1) (drop 1 back) (omega (arith, length-drop {A = ℕ})) ∙ ap (drop 1) c.split_at.ensures.back
    ∙ ap (λ k. drop 1 (drop k xs)) c.point_of.ensures.place
