-- What the loop of `push_groups` keeps.
use Rattle.std.proofs.Common.{◌≡◌, ◌++◌, length, true}
use Rattle.std.specs.Char.{is_ascii_digit}
use Rattle.std.specs.List.{list_all}
use Rattle.pg_numbers.specs.NumericTexts.{grouped}
use Rattle.pg_numbers.proofs.numeric.text.push_groups.Given as goal

abbrev pub invariant-loop-left : goal.invariant-loop-left
invariant-loop-left l = record {
  decimal : list_all is_ascii_digit l.left ≡ true;
  digits : l.digits.items ++ grouped l.left ≡ l.fn.digits.items ++ grouped l.fn.text;
}

abbrev pub decreases-loop-left : goal.decreases-loop-left
decreases-loop-left l = length l.left
