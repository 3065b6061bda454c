-- What the proof of `parse_records` answers by hand.
use Rattle.std.proofs.Common.{◌+◌, ◌∙◌, List, Option, subst, sym, take, ℕ}
use Rattle.std.proofs.lemmas.List.{take_all}
use Rattle.std.specs.Global.{Global}
use Rattle.std.specs.List.{AllZip}
use Rattle.std.specs.Prelude.{String, Vec}
use Rattle.pg_text.proofs.Joins.{zip_more}
use Rattle.pg_copy.proofs.WrittenRecords.{says_records}
use Rattle.pg_copy.specs.WrittenComposites.{SaysRecord}
use Rattle.pg_copy.proofs.parse.parse_records.Goals as goal

pub loop-text-preserved : goal.loop-text-preserved
loop-text-preserved c =
    let fields = c.args.fields.now in
    let texts = c.deref-text-items.result.now in
    let i = c.loop-text.text-index in
    subst (λ (records : List (Option (Vec ℕ Global))). AllZip (SaysRecord fields) (take (i + 1) texts) records)
    (sym {A = List (Option (Vec ℕ Global))} c.in_ok-push.ensures.items)
    (zip_more (SaysRecord fields) texts c.loop-text.records.items i c.text-item.result c.in_ok-parse_record.field-0
    c.loop-text-test.true c.text-item.is c.loop-text.invariant c.in_ok-parse_record.ensures)

pub returns : goal.returns
returns c =
    let fields = c.args.fields.now in
    let records = c.loop-text.records.items in
    says_records fields c.args.text.now c.in_ok-texts.texts.items records c.in_ok-texts.ensures
    (subst (λ (texts : List (Option (String Global))). AllZip (SaysRecord fields) texts records)
    (take_all c.loop-text.text-index c.deref-text-items.result.now c.loop-text-test.false
    ∙ c.deref-text-items.ensures.value) c.loop-text.invariant)
