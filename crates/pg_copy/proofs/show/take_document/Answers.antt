-- What the proof of `take_document` answers by hand.
use Rattle.std.proofs.Common.{◌≡◌, ℕ, Bor, List, Ok, Some, false, subst}
use Rattle.pg_base.specs.Cells.{Cell}
use Rattle.pg_copy.proofs.CellTexts.{value_taken}
use Rattle.pg_types.specs.declared.types.built_in.BuiltIn.TheVariants.{Jsonb}
use Rattle.postgres_types.specs.Content.{content, is_row}
use Rattle.postgres_types.specs.Faults.{Outcome}
use Rattle.postgres_types.specs.FrameReading.{ReadsFrame}
use Rattle.postgres_types.specs.JsonTexts.{ReadsDocument}
use Rattle.postgres_types.specs.OptionReading.{ReadsOption}
use Rattle.postgres_types.specs.Texts.{ReadsText}
use Rattle.postgres_types.specs.Views.{ReadsThrough}
use Rattle.postgres_types.specs.declared.json_text.JsonText.{JsonText}
use Rattle.pg_copy.proofs.show.take_document.Goals as goal

pub returns-in-Some-clause-ok : goal.returns-in-Some-clause-ok
returns-in-Some-clause-ok c =
    let reads : Cell → Outcome (JsonText (Bor (List ℕ))) → Type 0 = ReadsThrough (λ v. v.0)
    (ReadsDocument (is_row Jsonb (content c.args.ty.now)) (ReadsText (λ s. s.now) false)) in
    let read = subst (λ v. ReadsFrame (ReadsOption reads) _ c.args.row.now.now (Ok v) c.read_value.new.buf.now)
    c.in-Some.is c.in_ok-read_value.ensures in
    let taken = value_taken reads _ c.args.row.now.now c.read_value.new.buf.now c.in-Some.field-0 read in
    let shown : c.as_bytes.result.now ≡ c.in-Some.field-0.0.now = cc in
    rw c.if-is_array.false (Some taken.0, taken.1, (c.in-Some.field-0, taken.2, shown))
