-- What the proof of `list_to_sql` answers by hand.
use Rattle.std.proofs.Common.{◌≡◌, Some, ap, arith, sym, ◌∙◌}
use Rattle.pg_base.specs.ArrayTypes.{element_of}
use Rattle.pg_types.specs.Content.{content}
use Rattle.pg_types.specs.Faults.{refusal_of}
use Rattle.pg_write.proofs.ListRoom.{list_takes}
use Rattle.pg_write.proofs.ParamRoom.{if_none_then}
use Rattle.pg_write.proofs.arrays.list_to_sql.Goals as goal

pub returns-clause-room : goal.returns-clause-room
returns-clause-room g c = λ all ok.
    let is : element_of (content c.args.ty.now) ≡ Some (content c.deref.result.now) =
    sym c.element_type.ensures ∙ rw c.in-Some.is (ap (λ x. Some (content x)) (sym c.deref.ensures)) in
    let takes = list_takes g.T.ToSql.wire (content c.args.ty.now) (content c.deref.result.now)
    (element_of (content c.args.ty.now)) c.args.values.now is ok in
    if_none_then (refusal_of c.in-Err.fault) (λ h. omega (arith, h, takes)) (c.in-Err.ensures.room all)
