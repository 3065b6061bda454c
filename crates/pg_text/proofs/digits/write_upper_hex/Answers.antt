-- What the proof of `write_upper_hex` answers by hand.
use Rattle.std.proofs.Common.{◌-◌, ◌/◌, sym, ap, ◌∙◌, drop, length-set, arith, true}
use Rattle.std.proofs.lemmas.List.{drop_all}
use Rattle.std.specs.Fmt.{digits_onto}
use Rattle.pg_text.proofs.HexDigits.{onto_nothing, onto_first, onto_more, put_before}
use Rattle.pg_text.proofs.digits.write_upper_hex.Goals as goal

pub loop-start-init : goal.loop-start-init
loop-start-init c = (
  omega arith,
  c.told-buffer,
  ap (digits_onto 64 16 true c.args.number) (drop_all 64 c.args.buffer.now (omega (arith, c.told-buffer)))
      ∙ onto_nothing _ _,
)

pub loop-start-preserved : goal.loop-start-preserved
loop-start-preserved c =
    let l = c.loop-start in
    let a = c.args in
    let kept = length-set l.buffer (l.start - 1) c.upper_hex_digit.result ∙ l.invariant.1 in
    let written = ap (digits_onto (l.start - 1) 16 true (l.rest / 16))
    (put_before l.buffer l.start _ _ c.loop-start-test.true (omega arith) c.upper_hex_digit.ensures) in (
      omega arith,
      kept,
      written
          ∙ sym (onto_more true l.rest (drop l.start l.buffer) l.start c.loop-start-test.true
          c.if-rest-eq0.false) ∙ l.invariant.2,
    )

pub returns-then-rest-eq0 : goal.returns-then-rest-eq0
returns-then-rest-eq0 c =
    let l = c.loop-start in
    let a = c.args in
    let written = put_before l.buffer l.start _ _ c.loop-start-test.true (omega arith) c.upper_hex_digit.ensures in
    record {
      bound = omega arith;
      value = written
          ∙ sym (onto_first true l.rest (drop l.start l.buffer) l.start c.loop-start-test.true
          c.if-rest-eq0.true) ∙ l.invariant.2;
    }
