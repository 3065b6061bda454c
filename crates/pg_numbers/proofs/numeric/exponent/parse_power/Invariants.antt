-- What the loop of `parse_power` keeps.
use Rattle.std.proofs.Common.{◌≡◌, ◌<◌, length, true}
use Rattle.std.specs.Char.{is_ascii_digit}
use Rattle.std.specs.List.{list_all}
use Rattle.std.specs.Str.Parse.{digits_value, digits_value_after}
use Rattle.pg_numbers.specs.NumericExponents.{power_limit}
use Rattle.pg_numbers.proofs.numeric.exponent.parse_power.Given as goal

abbrev pub invariant-loop-left : goal.invariant-loop-left
invariant-loop-left l = record {
  decimal : list_all is_ascii_digit l.left ≡ true;
  value : digits_value_after 10 l.power l.left ≡ digits_value 10 l.fn.digits;
  small : l.power < power_limit;
}

abbrev pub decreases-loop-left : goal.decreases-loop-left
decreases-loop-left l = length l.left
