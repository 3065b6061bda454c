-- What the proof of `is_surely_plain` answers by hand.
use Rattle.std.proofs.Common.{◌-◌, arith, length, subst}
use Rattle.std.specs.Bool.{OnTrue}
use Rattle.pg_copy.proofs.PlainLanes.{plain_to_end}
use Rattle.pg_copy.specs.Escapes.{PlainBetween}
use Rattle.pg_copy.proofs.escapes.is_surely_plain.Goals as goal

pub returns-then-are_4_plain : goal.returns-then-are_4_plain
returns-then-are_4_plain c =
    let text = c.args.text.now in
    let first = subst (λ b. OnTrue b (PlainBetween text 0 4)) c.if-are_4_plain.true c.are_4_plain.ensures in
    plain_to_end 4 c.are_4_plain-then-are_4_plain.result text (length text - 4) 4 (omega arith) (omega arith) first
    c.are_4_plain-then-are_4_plain.ensures

pub returns-then-are_8_plain : goal.returns-then-are_8_plain
returns-then-are_8_plain c =
    let text = c.args.text.now in
    let first = subst (λ b. OnTrue b (PlainBetween text 0 8)) c.if-are_8_plain.true c.are_8_plain.ensures in
    plain_to_end 8 c.are_8_plain-then-are_8_plain.result text (length text - 8) 8 (omega arith) (omega arith) first
    c.are_8_plain-then-are_8_plain.ensures

pub returns-then-are_first_plain : goal.returns-then-are_first_plain
returns-then-are_first_plain c =
    let text = c.args.text.now in
    let end = length text - 16 in
    let first = subst (λ b. OnTrue b (PlainBetween text 0 end)) c.if-are_first_plain.true c.are_first_plain.ensures in
    plain_to_end 16 c.are_16_plain.result text end end (omega arith) (omega arith) first c.are_16_plain.ensures
