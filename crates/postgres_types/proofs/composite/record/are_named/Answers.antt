-- What the proof of `are_named` answers by hand.
use Rattle.std.proofs.Common.{refl, sym, ◌∙◌}
use Rattle.postgres_types.proofs.FieldNames.{none_left, other_name, other_number, same_name}
use Rattle.postgres_types.proofs.composite.record.are_named.Goals as goal

pub returns-then-names-fields : goal.returns-then-names-fields
returns-then-names-fields c = other_number c.args.names.now c.args.fields.now c.if-names-fields.true

pub returns-then-ne : goal.returns-then-ne
returns-then-ne c =
    sym (c.loop-place.invariant
    ∙ other_name c.args.names.now c.args.fields.now c.loop-place.place _ c.index-fields-place.result c.name.result.now
    c.loop-place-test.true c.if-names-fields.false c.index-fields-place.is c.name.ensures (sym c.ne.ensures ∙ c.if-ne.true))

pub loop-place-init : goal.loop-place-init
loop-place-init c = refl

pub loop-place-preserved : goal.loop-place-preserved
loop-place-preserved c =
    c.loop-place.invariant
    ∙ same_name c.args.names.now c.args.fields.now c.loop-place.place _ c.index-fields-place.result c.name.result.now
    c.loop-place-test.true c.if-names-fields.false c.index-fields-place.is c.name.ensures (sym c.ne.ensures ∙ c.if-ne.false)

pub returns : goal.returns
returns c =
    sym (c.loop-place.invariant
    ∙ none_left c.args.names.now c.args.fields.now c.loop-place.place c.if-names-fields.false c.loop-place-test.false)
