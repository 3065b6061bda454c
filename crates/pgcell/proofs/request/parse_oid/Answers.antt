-- What the proof of `parse_oid` answers by hand.
use Rattle.std.proofs.Common.{subst, sym, ◌∙◌}
use Rattle.std.specs.Str.Parse.{ParsesUnsigned}
use Rattle.pgcell.proofs.Digits.{oid_parsed, other_none}
use Rattle.pgcell.proofs.request.parse_oid.Goals as goal

pub returns-in-Ok : goal.returns-in-Ok
returns-in-Ok c =
    let word = c.args.word.now in
    let told = subst (λ digits. ParsesUnsigned 32 10 digits c.parse.result) c.in-Ok.ensures.cases.0
    c.parse.ensures.value.0 in
    c.ok.ensures.value ∙ oid_parsed word c.parse.result c.if-word-gt10.false
    (sym c.starts_with.ensures.value ∙ c.if-starts_with.false) told

pub returns-in-Err : goal.returns-in-Err
returns-in-Err c = other_none c.args.word.now c.in-Err.ensures.cases.0
