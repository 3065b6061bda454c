-- What the proof of `Scanner::digits` answers by hand.
use Rattle.std.proofs.Common.{◌≡◌, ◌+◌, ◌-◌, ◌*◌, ◌^◌, ◌<◌, drop, get_or, length, take, arith, refl, subst, sym}
use Rattle.std.proofs.lemmas.List.{take_rest}
use Rattle.std.proofs.lemmas.Str.Parse.{digit_from_value}
use Rattle.pg_text.proofs.DigitRuns.{ends_at, least_number, next_digit, takes_digits}
use Rattle.pg_text.specs.Scans.{EndsDigits}
use Rattle.pg_text.proofs.scanner.Scanner.digits.Goals as goal
use Rattle.pg_text.proofs.scanner.Scanner.digits.Goals.{then-loop-len-test+else-is_ascii_digit, else-loop-len-test}

pub loop-len-preserved : goal.loop-len-preserved
loop-len-preserved c =
    let text = c.args.self.now.rest.now in
    let l = c.loop-len in
    let more : c.in_ok-number.number ≡ l.number * 10 + (get_or text l.len 0 - 48) =
    omega (arith, c.in_ok-checked_mul.ensures, c.in_ok-number.ensures) in
    let next = next_digit text l.len l.number c.in_ok-number.number c.loop-len-test.true
    c.if-is_ascii_digit.ensures.cases l.invariant.1 l.invariant.2 more in
    (omega (arith, c.loop-len-test.true), next.0, next.1)

pub returns : goal.returns
returns c =
    let text = c.args.self.now.rest.now in
    let l = c.loop-len in
    let some : 0 < l.len = omega (arith, c.if-len-eq0.false) in
    let rest = take_rest text l.len in (
      takes_digits text l.len l.number (take (length text - l.len) (drop l.len text)) some l.invariant.0
          l.invariant.1 l.invariant.2 rest,
      subst EndsDigits (sym rest) (ends_at text l.len (λ within digit. elim c.loop-len-test.branch [
        | then-loop-len-test+else-is_ascii_digit w ↦
            omega (arith, digit_from_value (get_or text l.len 0) digit, w.if-is_ascii_digit.ensures.cases)
        | else-loop-len-test w ↦ omega (arith, within, w.loop-len-test.false)
      ])),
    )

pub returns-in_err-checked_mul : goal.returns-in_err-checked_mul
returns-in_err-checked_mul c =
    let text = c.args.self.now.rest.now in
    let l = c.loop-len in
    let next = next_digit text l.len l.number (l.number * 10 + (get_or text l.len 0 - 48)) c.loop-len-test.true
    c.if-is_ascii_digit.ensures.cases l.invariant.1 l.invariant.2 refl in
    rw c.from_residual.ensures (least_number text (l.len + 1) (l.number * 10 + (get_or text l.len 0 - 48)) (2 ^ 64)
    (omega (arith, c.loop-len-test.true)) next.0 next.1 (omega (arith, c.in_err-checked_mul.ensures)))

pub returns-in_err-number : goal.returns-in_err-number
returns-in_err-number c =
    let text = c.args.self.now.rest.now in
    let l = c.loop-len in
    let next = next_digit text l.len l.number (l.number * 10 + (get_or text l.len 0 - 48)) c.loop-len-test.true
    c.if-is_ascii_digit.ensures.cases l.invariant.1 l.invariant.2 refl in
    rw c.from_residual-in_err-number.ensures (least_number text (l.len + 1)
    (l.number * 10 + (get_or text l.len 0 - 48)) (2 ^ 64) (omega (arith, c.loop-len-test.true)) next.0 next.1
    (omega (arith, c.in_ok-checked_mul.ensures, c.in_err-number.ensures)))
