-- What the proof of `split_string` answers by hand.
use Rattle.std.proofs.Common.{◌∙◌, Some, ap, sym}
use Rattle.pg_messages.specs.Reading.{text_of}
use Rattle.pg_messages.proofs.Strings.{found, none, plain, refused}
use Rattle.pg_messages.proofs.split.split_string.Goals as goal

pub returns-in_default : goal.returns-in_default
returns-in_default c = sym (ap text_of (none c.args.bytes.now c.in_default.ensures.none))

pub returns-in-Ok : goal.returns-in-Ok
returns-in-Ok c =
    let rest = c.in-Some.rest.now in
    let text = c.in-Some.ensures.some in
    let first = found c.args.bytes.now c.in-Some.text.now rest text.0 text.1 in
    ap (λ t. Some (t, rest)) c.in-Ok.ensures.cases.0
    ∙ sym (ap text_of first ∙ plain c.in-Some.text.now rest c.in-Ok.ensures.cases.1)

pub returns-in-Err : goal.returns-in-Err
returns-in-Err c =
    let rest = c.in-Some.rest.now in
    let text = c.in-Some.ensures.some in
    let first = found c.args.bytes.now c.in-Some.text.now rest text.0 text.1 in
    sym (ap text_of first ∙ refused c.in-Some.text.now rest c.in-Err.ensures.cases.0)
