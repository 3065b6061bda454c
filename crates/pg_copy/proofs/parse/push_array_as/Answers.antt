-- What the proof of `push_array_as` answers by hand.
use Rattle.std.specs.Prelude.{codes}
use Rattle.pg_copy.proofs.Wires.{list_never_null, value_frame}
use Rattle.pg_text.specs.Lists.{SaysArray}
use Rattle.postgres_types.specs.ArrayTypes.{accepted_list, element_of}
use Rattle.postgres_types.specs.ArrayWriting.{wire_list}
use Rattle.postgres_types.specs.Content.{Content, content}
use Rattle.postgres_types.specs.OptionWriting.{wire_option}
use Rattle.pg_copy.proofs.parse.push_array_as.Goals as goal

pub returns-clause-ok : goal.returns-clause-ok
returns-clause-ok g c =
    let ty = content c.args.ty.now in
    let wire = λ (ty : Content). wire_option (g.T.ToSql.wire ty) in
    let elements = c.in_ok-elements.elements.items in
    value_frame (SaysArray g.T.FromText.says) (accepted_list g.T.ToSql.accepted) (codes "Vec")
    (wire_list wire) ty c.args.text.now elements c.in_ok-elements.ensures
    (list_never_null wire ty (element_of ty) elements) c.args.out.now.items c.frame_value.new.out.items
    c.frame_value.result c.frame_value.ensures.frame
