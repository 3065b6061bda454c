-- What the proof of `push_frame` answers by hand.
use Rattle.std.proofs.Common.{◌∙◌, ap, eq-eqb, length, sym}
use Rattle.std.proofs.lemmas.Bool.{eqb-true, false≢true}
use Rattle.std.proofs.lemmas.List.{nil_from_length}
use Rattle.std.specs.Prelude.{vec_len}
use Rattle.pg_copy.proofs.WrittenRecords.{with_fields, without_fields}
use Rattle.pg_copy.specs.WrittenCells.{text_of}
use Rattle.postgres_types.specs.Content.{content}
use Rattle.pg_copy.proofs.parse.push_frame.Goals as goal

pub returns-then-is_empty-clause-ok : goal.returns-then-is_empty-clause-ok
returns-then-is_empty-clause-ok c =
    let column = c.args.column.now in
    let empty = eqb-true (vec_len column.fields) 0 (sym c.is_empty.ensures ∙ c.if-is_empty.true) in
    without_fields column.base column.is_array (content column.ty) (text_of c.args.text) c.args.out.now.items
    c.push_value.new.out.items c.push_value.result column.fields.items
    (nil_from_length column.fields.items (sym column.fields.ok.0 ∙ empty)) c.push_value.ensures.ok

pub returns-else-is_empty-clause-ok : goal.returns-else-is_empty-clause-ok
returns-else-is_empty-clause-ok c =
    let column = c.args.column.now in
    with_fields column.base column.is_array (content column.ty) (text_of c.args.text) c.args.out.now.items
    c.push_composite.new.out.items c.push_composite.result column.fields.items
    (λ e. false≢true (sym c.if-is_empty.false ∙ c.is_empty.ensures
    ∙ eq-eqb (vec_len column.fields) 0 (column.fields.ok.0 ∙ ap length e))) c.push_composite.ensures.ok
