-- What the loop of `write_digits` keeps.
use Rattle.std.specs.Fmt.{HasWritten, IsPlainFormatter}
use Rattle.pg_numbers.specs.NumericTexts.{digits_text}
use Rattle.pg_numbers.proofs.numeric.text.write_digits.Given as goal

abbrev pub invariant-loop-place : goal.invariant-loop-place
invariant-loop-place g l =
    IsPlainFormatter l.fn.f → HasWritten g.W.Write.write_str_gives l.fn.f (digits_text l.v l.weight l.place) l.f
