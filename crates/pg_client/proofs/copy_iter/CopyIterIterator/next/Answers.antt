-- What the proof of `next` answers by hand: what is given is what the rows gave.
use Rattle.std.proofs.Common.{◌≡◌, None, Ok, Some, subst, sym}
use Rattle.pg_client.specs.CopyIteration.{Gives}
use Rattle.pg_client.specs.CopyReading.{ReadsNext}
use Rattle.pg_client.proofs.copy_iter.CopyIterIterator.next.Goals as goal

pub returns-in-Ok-Some-clause-steps : goal.returns-in-Ok-Some-clause-steps
returns-in-Ok-Some-clause-steps c =
    let was : c.args.self.now.rows ≡ Some c.in_ok-rows.rows = cc (c.in_ok-rows.ensures.value) in
    let copy = c.next.new.self in
    subst (λ old. Gives old (Some (Ok c.in-Ok-Some.row)) (Some copy)) (sym was) (
      c.in-Ok-Some.ensures.columns,
      λ bytes rows read. subst (λ item. ReadsNext bytes rows item copy) c.in-Ok-Some.field-0-is
          (c.in-Ok-Some.ensures.reads bytes rows read),
    )

pub returns-in-Ok-None-clause-steps : goal.returns-in-Ok-None-clause-steps
returns-in-Ok-None-clause-steps c =
    let was : c.args.self.now.rows ≡ Some c.in_ok-rows.rows = cc (c.in_ok-rows.ensures.value) in
    let copy = c.next.new.self in
    let given : Gives c.args.self.now.rows None None = subst (λ old. Gives old None None) (sym was) (λ bytes rows read.
    (subst (λ item. ReadsNext bytes rows item copy) c.in-Ok-None.field-0-is
    (c.in-Ok-None.ensures.reads bytes rows read)).0) in
    subst (λ new. Gives c.args.self.now.rows None new) (sym c.take.ensures.after) given
