-- What the proof of `take_text` answers by hand.
use Rattle.std.proofs.Common.{◌≤◌, length, subst}
use Rattle.pg_copy.proofs.CompositeSteps.{with_fields}
use Rattle.pg_types.specs.Content.{content}
use Rattle.pg_copy.proofs.show.take_text.Goals as goal

pub returns-in_default-clause-ok : goal.returns-in_default-clause-ok
returns-in_default-clause-ok c =
    let some = subst (λ fields. 1 ≤ length fields) c.as_slice.ensures.value c.in_default.len_at_least in
    rw (
      c.if-column.true,
      with_fields c.args.column.now.fields.items c.args.column.now.base some,
      ← c.as_slice.ensures.value,
    ) (c.take_composites.ensures.ok (content c.args.column.now.ty))

pub returns-in_default-2-clause-ok : goal.returns-in_default-2-clause-ok
returns-in_default-2-clause-ok c =
    let some = subst (λ fields. 1 ≤ length fields) c.as_slice.ensures.value c.in_default.len_at_least in
    rw (
      c.if-column.false,
      with_fields c.args.column.now.fields.items c.args.column.now.base some,
      ← c.as_slice.ensures.value,
    ) (c.take_composite.ensures.ok (content c.args.column.now.ty))
