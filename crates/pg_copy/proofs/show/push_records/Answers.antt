-- What the proof of `push_records` answers by hand.
use Rattle.std.proofs.Common.{[], ◌∷◌, ◌++◌, ◌∙◌, Bor, List, None, Option, arith, get_or, sym, take, ℕ}
use Rattle.std.proofs.lemmas.List.{get_or_default, length-take-le}
use Rattle.pg_copy.specs.Composites.{ShowsRecord}
use Rattle.pg_base.proofs.Lists.{zip_length}
use Rattle.pg_text.proofs.Joins.{texts_step, zip_more}
use Rattle.pg_text.specs.Lists.{ShowsElement}
use Rattle.std.proofs.lemmas.Option.{IfSome_then}
use Rattle.std.proofs.lemmas.Result.{err_from_is_err_and}
use Rattle.pg_copy.proofs.RecordFaults.{element_refused}
use Rattle.pg_types.specs.Faults.{refusal_of}
use Rattle.pg_copy.proofs.show.push_records.Goals as goal

pub loop-place-preserved : goal.loop-place-preserved
loop-place-preserved c =
    let shown : Option (Bor (List ℕ)) → List ℕ → Type 0 = ShowsElement (λ s. ShowsRecord c.args.fields.now s.now) in
    let records = c.args.records.now in
    let i = c.loop-place.place in
    let before = c.loop-place.invariant in
    let item = c.in_ok-push_item.ensures.ok in
    let count = sym (zip_length shown (take i records) before.0 before.1)
    ∙ length-take-le i records (omega (arith, c.loop-place-test.true)) in
    let here = get_or records i None in (
      before.0 ++ item.0 ∷ [],
      zip_more shown records before.0 i here item.0 c.loop-place-test.true
          (get_or_default records i None here c.loop-place-test.true) before.1 item.1,
      texts_step 44 before.0 i item.0 (c.args.text.now.items ++ 123 ∷ []) c.loop-place.text.items
          c.push_separator.new.out.items c.push_item.new.text.items count before.2 c.in_ok-push_separator.ensures
          item.2,
    )

pub returns-in_err-push_item-clause-err : goal.returns-in_err-push_item-clause-err
returns-in_err-push_item-clause-err c =
    let before = c.loop-place.invariant in
    let records = c.args.records.now in
    let i = c.loop-place.place in
    let here = get_or records i None in
    let p = err_from_is_err_and c.from_residual-in_err-push_item.result c.from_residual-in_err-push_item.ensures.1 in
    rw (p.1, p.2) (IfSome_then (refusal_of c.in_err-push_item.field-0.0) c.in_err-push_item.ensures.err
    (λ r q. element_refused c.args.fields.now r records i here before.0 c.loop-place-test.true
    (get_or_default records i None here c.loop-place-test.true) before.1 q))
