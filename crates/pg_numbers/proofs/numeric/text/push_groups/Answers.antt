-- What the proof of `push_groups` answers by hand.
use Rattle.std.proofs.Common.{◌≡◌, ◌∷◌, ◌++◌, ◌-◌, ◌∙◌, [], ap, append_assoc, arith, drop, length, sym, take, ℕ}
use Rattle.std.proofs.lemmas.List.{length-drop, take_all}
use Rattle.std.specs.Char.{is_ascii_digit}
use Rattle.std.specs.List.{list_all}
use Rattle.pg_numbers.specs.NumericTexts.{grouped}
use Rattle.pg_numbers.proofs.ReadTexts.{decimal_drop, grouped_more}
use Rattle.pg_numbers.proofs.numeric.text.push_groups.Goals as goal

pub loop-left-preserved : goal.loop-left-preserved
loop-left-preserved c =
    let left = c.loop-left.left.now in
    let items = c.loop-left.digits.items in
    let g = c.group.result in
    let rest : take (length left - 4) (drop 4 left) ≡ drop 4 left =
    take_all (length left - 4) (drop 4 left) (omega (arith, length-drop {A = ℕ})) in
    record {
      decimal = ap (list_all is_ascii_digit) rest ∙ decimal_drop 4 left c.loop-left.invariant.decimal;
      digits =
          ap (λ xs. c.push.new.self.items ++ grouped xs) rest
          ∙ ap (λ xs. xs ++ grouped (drop 4 left)) c.in_ok-push.ensures.items
          ∙ append_assoc items (g ∷ []) (grouped (drop 4 left))
          ∙ ap (λ n. items ++ (n ∷ grouped (drop 4 left))) c.group.ensures
          ∙ ap (λ xs. items ++ xs) (sym (grouped_more left c.in-len4-up.len_at_least)) ∙ c.loop-left.invariant.digits;
    }
