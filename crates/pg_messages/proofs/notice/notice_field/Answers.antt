-- What the proof of `notice_field` answers by hand.
use Rattle.std.proofs.Common.{sym, ◌∙◌}
use Rattle.pg_messages.proofs.NoticeFields.{first_and_rest, here, later, no_field, no_more, truncated}
use Rattle.pg_messages.proofs.notice.notice_field.Goals as goal

pub returns-then-first-eq0 : goal.returns-then-first-eq0
returns-then-first-eq0 c =
    let s = c.loop-left.left.now in
    sym (no_field c.args.code s _ _ (first_and_rest s c.in-len1-up.len_at_least) c.if-first-eq0.true)
    ∙ c.loop-left.invariant

pub returns-in_default-split_once : goal.returns-in_default-split_once
returns-in_default-split_once c =
    let s = c.loop-left.left.now in
    sym (truncated c.args.code s _ _ (first_and_rest s c.in-len1-up.len_at_least) c.if-first-eq0.false
    c.in_default-split_once.ensures.none) ∙ c.loop-left.invariant

pub returns-then-first-code : goal.returns-then-first-code
returns-then-first-code c =
    let s = c.loop-left.left.now in
    let text = c.in-Some.ensures.some in
    sym (here c.args.code s _ _ (first_and_rest s c.in-len1-up.len_at_least) c.in-Some.text.now
    c.in-Some.after.now c.if-first-eq0.false c.if-first-code.true text.0 text.1) ∙ c.loop-left.invariant

pub loop-left-preserved : goal.loop-left-preserved
loop-left-preserved c =
    let s = c.loop-left.left.now in
    let text = c.in-Some.ensures.some in
    later c.args.code s _ _ (first_and_rest s c.in-len1-up.len_at_least) c.in-Some.text.now c.in-Some.after.now
    c.if-first-eq0.false c.if-first-code.false text.0 text.1 ∙ c.loop-left.invariant

pub returns : goal.returns
returns c = sym (no_more c.args.code c.loop-left.left.now c.in_default.len_below) ∙ c.loop-left.invariant
