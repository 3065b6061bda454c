-- What the proof of `push_composite` answers by hand.
use Rattle.std.proofs.Common.{List, map, subst, ℕ}
use Rattle.std.specs.Prelude.{codes}
use Rattle.pg_copy.proofs.Wires.{value_frame}
use Rattle.pg_copy.proofs.WrittenRecords.{record_whole, records_frame}
use Rattle.pg_copy.specs.WrittenComposites.{RecordOf, record_of}
use Rattle.pg_text.specs.Lists.{SaysArray}
use Rattle.pg_types.specs.declared.types.built_in.BuiltIn.TheVariants.{Bytea}
use Rattle.postgres_types.specs.Bytea.{wire_bytes}
use Rattle.postgres_types.specs.Content.{BuiltInType, is_row}
use Rattle.pg_copy.specs.declared.columns.Field.{Field}
use Rattle.pg_copy.proofs.parse.push_composite.Goals as goal

pub returns-then-column-clause-ok : goal.returns-then-column-clause-ok
returns-then-column-clause-ok c =
    let fields = c.args.column.now.fields.items in
    let text = c.in-Some.text.now in
    let records = c.in_ok-records.records.items in
    let said = subst (λ (fs : List Field). SaysArray (RecordOf fs) text (map record_of records))
    c.as_slice-fields.ensures.value c.in_ok-records.ensures in
    rw (c.if-column.true, c.in-Some.is) (records_frame fields text records said c.args.out.now.items
    c.frame_value-then-column.new.out.items c.frame_value-then-column.result c.frame_value-then-column.ensures.frame)

pub returns-clause-ok : goal.returns-clause-ok
returns-clause-ok c =
    let fields = c.args.column.now.fields.items in
    let text = c.in-Some.text.now in
    let cell = c.as_slice.result.now in
    let said = subst (λ (fs : List Field). RecordOf fs text cell) c.as_slice-fields.ensures.value
    (record_whole c.as_slice-fields.result.now text c.new-cell.result.items c.push_record.new.out.items cell
    c.in_ok-push_record.ensures c.new-cell.ensures.items c.as_slice.ensures) in
    rw (c.if-column.false, c.in-Some.is) (value_frame {A = List ℕ} (RecordOf fields) (is_row Bytea) (codes "&[u8]")
    (λ ty bytes. wire_bytes bytes) (BuiltInType Bytea) text cell said tt c.args.out.now.items
    c.frame_value-2.new.out.items c.frame_value-2.result c.frame_value-2.ensures.frame)
