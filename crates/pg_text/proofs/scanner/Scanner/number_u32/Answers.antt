-- What the proof of `Scanner::number_u32` answers by hand.
use Rattle.std.proofs.Common.{arith}
use Rattle.pg_text.proofs.DigitRuns.{narrowed}
use Rattle.pg_text.proofs.scanner.Scanner.number_u32.Goals as goal

pub returns-in_err-number : goal.returns-in_err-number
returns-in_err-number c =
    rw c.from_residual.ensures (λ n len rest taken. omega (arith, c.in_err-number.ensures n len rest taken))

pub returns : goal.returns
returns c =
    narrowed c.args.self.now.rest.now c.number.new.self.rest.now c.in_ok-number.field-0 c.try_from.result c.ok.result
    c.try_from.ensures c.ok.ensures.value c.in_ok-number.ensures
