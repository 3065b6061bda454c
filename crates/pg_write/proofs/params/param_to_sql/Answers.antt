-- What the proof of `param_to_sql` answers by hand. In each, the value in the box is the one that is written.
use Rattle.std.proofs.Common.{refl, ap, subst, ◌∙◌, IsTrue, negsuc, take, length, Ok}
use Rattle.std.proofs.Math.Path.{transport}
use Rattle.std.proofs.Math.Seq.{take-append_seam}
use Rattle.std.proofs.lemmas.Option.{IfSome_then}
use Rattle.std.specs.Int.{w32}
use Rattle.pg_base.specs.Cells.{be}
use Rattle.pg_types.specs.Content.{content}
use Rattle.pg_types.specs.Faults.{refusal_of}
use Rattle.pg_write.specs.ArrayWriting.{element_frame_cell}
use Rattle.pg_write.specs.Writing.{KeepsRoomRule, Writes, checked}
use Rattle.pg_write.proofs.ParamFrames.{frame_after_cell, had_less_room}
use Rattle.pg_write.proofs.params.param_to_sql.Goals as goal

pub returns-in-Ok-Yes-clause-frame : goal.returns-in-Ok-Yes-clause-frame
returns-in-Ok-Yes-clause-frame g c =
    let same = c.deref_box-1.ensures.1 in
    let written = subst (λ w. Writes w c.put_i32.new.self.items c.to_sql_checked.new.out.items c.to_sql_checked.result)
    (λ i. let m = (g.dyn-1.0.entry (same i).0).1.ToSql in
    checked m.accepted m.name m.wire (content c.args.ty.now) (same i).1)
    c.to_sql_checked.ensures.0 in
    let null = subst (Writes _ c.put_i32.new.self.items c.to_sql_checked.new.out.items)
    (c.in-Ok-Yes.is ∙ ap Ok c.in-Ok-Yes.field-0-is) written in
    record {
      cell = _;
      bytes = be w32 (negsuc 0);
      cell_is = null.0;
      frame_is = refl;
      is = null.1 ∙ c.in_ok-put_i32.ensures.ok;
    }

pub returns-in-Ok-No-clause-frame : goal.returns-in-Ok-No-clause-frame
returns-in-Ok-No-clause-frame g c =
    let same = c.deref_box-1.ensures.1 in
    let written = subst (λ w. Writes w c.put_i32.new.self.items c.to_sql_checked.new.out.items c.to_sql_checked.result)
    (λ i. let m = (g.dyn-1.0.entry (same i).0).1.ToSql in
    checked m.accepted m.name m.wire (content c.args.ty.now) (same i).1)
    c.to_sql_checked.ensures.0 in
    let cell = subst (Writes _ c.put_i32.new.self.items c.to_sql_checked.new.out.items)
    (c.in-Ok-No.is ∙ ap Ok c.in-Ok-No.field-0-is) written in
    frame_after_cell _ _ _ _ _ _ _ _ c.len-start.ensures.value refl c.in_ok-put_i32.ensures.ok cell c.frame_from.ensures.frame

pub returns-in-Err-clause-frame : goal.returns-in-Err-clause-frame
returns-in-Err-clause-frame g c =
    let same = c.deref_box-1.ensures.1 in
    let written = subst (λ w. Writes w c.put_i32.new.self.items c.to_sql_checked.new.out.items c.to_sql_checked.result)
    (λ i. let m = (g.dyn-1.0.entry (same i).0).1.ToSql in
    checked m.accepted m.name m.wire (content c.args.ty.now) (same i).1)
    c.to_sql_checked.ensures.0 in
    let refused = subst (Writes _ c.put_i32.new.self.items c.to_sql_checked.new.out.items) c.in-Err.is written in
    let old = c.args.out.now.items in (
      ap (take (length old)) (refused.0 ∙ c.in_ok-put_i32.ensures.ok) ∙ take-append_seam old (be w32 (negsuc 0)),
      IfSome_then (refusal_of c.in-Err.fault) refused.1 (λ r e. ap element_frame_cell e),
    )

pub returns-in-Err-clause-room : goal.returns-in-Err-clause-room
returns-in-Err-clause-room g c = λ by_room ok.
    let same = c.deref_box-1.ensures.1 in
    let kept = transport (λ i. let m = (g.dyn-1.0.entry (same i).0).1.ToSql in
    m.by_room (same i).1 → IsTrue (m.accepted (content c.args.ty.now))
    → KeepsRoomRule (m.wire (content c.args.ty.now) (same i).1) c.put_i32.new.self.spare c.to_sql_checked.result)
    c.to_sql_checked.ensures.1.0 by_room ok in
    let had = subst (KeepsRoomRule _ c.put_i32.new.self.spare) c.in-Err.is kept in
    had_less_room (refusal_of c.in-Err.fault) _ _ _ had c.in_ok-put_i32.ensures.spare
