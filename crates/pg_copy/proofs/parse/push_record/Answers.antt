-- What the proof of `push_record` answers by hand.
use Rattle.std.proofs.Common.{◌+◌, ◌++◌, ◌∙◌, List, ap, length, pos, refl, subst, sym, ℕ, Option}
use Rattle.std.specs.Int.{w32}
use Rattle.std.specs.Prelude.{nat_lt}
use Rattle.pg_base.specs.Cells.{be}
use Rattle.pg_copy.proofs.WrittenRecords.{so_far_item}
use Rattle.pg_copy.specs.WrittenCells.{text_of}
use Rattle.pg_text.specs.Items.{TakesItem, unless_null}
use Rattle.pg_text.specs.declared.items.Items.TheVariants.{OfRecord}
use Rattle.pg_copy.proofs.parse.push_record.Goals as goal

pub loop-place-preserved : goal.loop-place-preserved
loop-place-preserved c =
    let fields = c.args.fields.now in
    let i = c.loop-place.place in
    let rest = c.loop-place.rest.now in
    let new = c.take_field.new.rest.now in
    let has_next = nat_lt (i + 1) (length fields) in
    let says = c.in_ok-said.ensures ∙ ap (unless_null c.in_ok-is_null.is_null) c.as_slice.ensures.value in
    so_far_item fields c.in-Some.rest.now (c.args.out.now.items ++ be w32 (pos (length fields))) i
    c.index-fields-place.result rest new c.loop-place.out.items c.push_field.new.out.items
    (text_of c.in_ok-said.field-0) c.loop-place-test.true c.index-fields-place.is c.loop-place.invariant
    c.in_ok-push_field.ensures has_next
    (subst (λ (said : Option (List ℕ)). TakesItem OfRecord rest new has_next said) (sym says) c.in_ok-is_null.ensures)
    refl
