-- What the proof of `push_as` answers by hand.
use Rattle.pg_copy.proofs.Wires.{value_frame}
use Rattle.postgres_types.specs.Content.{content}
use Rattle.pg_copy.proofs.parse.push_as.Goals as goal

pub returns-then-is_array-clause-ok : goal.returns-then-is_array-clause-ok
returns-then-is_array-clause-ok g c = rw c.if-is_array.true c.push_array_as.ensures.ok

pub returns-clause-ok : goal.returns-clause-ok
returns-clause-ok g c =
    let ty = content c.args.ty.now in
    let value = c.in_ok-from_text.field-0 in
    rw c.if-is_array.false (value_frame g.T.FromText.says g.T.ToSql.accepted g.T.ToSql.name g.T.ToSql.wire ty
    c.args.text.now value c.in_ok-from_text.ensures (c.requires ty value) c.args.out.now.items
    c.frame_value.new.out.items c.frame_value.result c.frame_value.ensures.frame)
