-- What the proof of `next` answers by hand.
use Rattle.std.proofs.Common.{[], ap, length, subst, ◌∙◌}
use Rattle.pg_client.proofs.PartLaws.{after_start}
use Rattle.pg_client.specs.CopyParts.{IsTaken, row_count}
use Rattle.pg_client.specs.CopyReading.{AfterHeader}
use Rattle.pg_client.proofs.copy_parts.CopyParts.next.Goals as goal

pub returns-in-Some-clause-reads : goal.returns-in-Some-clause-reads
returns-in-Some-clause-reads c = λ taken rows has.
    let start = subst (λ st. IsTaken st rows taken) c.in-Header.is has.0 in
    let head = subst (AfterHeader c.args.bytes.now.now) c.in-Some.is c.in_ok-tuples-in-Header.ensures.ok in
    after_start taken rows start.0 start.1 c.args.bytes.now.now c.in-Some.tuples.now head.0 c.take_tuple.new.bytes.now
    c.take_tuple.result c.take_tuple.new.self head.2
    (c.take_tuple.ensures.reads head.0 [] head.1 (has.1 ∙ ap (λ r. row_count (length r)) start.0))
