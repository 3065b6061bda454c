-- What the proof of `after_header` answers by hand.
use Rattle.std.proofs.Common.{inr, subst}
use Rattle.pg_client.proofs.CopyLaws.{begins_none, ends_in_extension}
use Rattle.pg_tuples.specs.Reading.{TakesHeader}
use Rattle.pg_client.proofs.copy_parts.after_header.Goals as goal

pub returns-in-Some-clause-ok : goal.returns-in-Some-clause-ok
returns-in-Some-clause-ok c =
    let mid = c.take_header.new.bytes.now in
    let head = subst (λ x. TakesHeader c.args.bytes.now x mid) c.in-Ok-Some.field-0-is c.in-Ok-Some.ensures.ok in
    let split = c.in-Some.ensures.cases in
    let begun = begins_none c.args.bytes.now head.0 mid _ c.in-Some.tuples.now c.in-Ok-Some.len head.1 head.2 split.1
    split.2 split.3 in
    (begun.0, begun.1, begun.2)

pub returns-in-None-clause-ok : goal.returns-in-None-clause-ok
returns-in-None-clause-ok c =
    let mid = c.take_header.new.bytes.now in
    let head = subst (λ x. TakesHeader c.args.bytes.now x mid) c.in-Ok-Some.field-0-is c.in-Ok-Some.ensures.ok in
    inr (ends_in_extension c.args.bytes.now head.0 mid c.in-Ok-Some.len head.1 head.2 c.in-None.ensures.cases)
