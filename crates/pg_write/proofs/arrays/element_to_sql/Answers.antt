-- What the proof of `element_to_sql` answers by hand.
use Rattle.std.proofs.Common.{None, Ok, ap, negsuc, refl, subst, ◌∙◌}
use Rattle.std.specs.Int.{w32}
use Rattle.pg_base.specs.Cells.{be}
use Rattle.pg_types.specs.Content.{content}
use Rattle.pg_write.specs.ParamWriting.{FramesFrom}
use Rattle.pg_write.specs.Writing.{Writes}
use Rattle.pg_write.proofs.ElementFrames.{not_null}
use Rattle.pg_write.proofs.ParamFrames.{some_after_cell}
use Rattle.pg_write.proofs.arrays.element_to_sql.Goals as goal

pub returns-in-Yes-clause-frame : goal.returns-in-Yes-clause-frame
returns-in-Yes-clause-frame g c =
    let null = subst (Writes (g.T.ToSql.wire (content c.args.element.now) c.args.value.now) c.put_i32.new.self.items
    c.to_sql.new.out.items) (c.in-Ok.is ∙ ap Ok c.in-Yes.is) c.to_sql.ensures.writes in (
      record {
        cell = None;
        bytes = be w32 (negsuc 0);
        cell_is = null.0;
        frame_is = refl;
        is = null.1 ∙ c.in_ok-put_i32.ensures.ok;
      },
      refl,
    )

pub returns-in-Ok-frame_from-clause-frame : goal.returns-in-Ok-frame_from-clause-frame
returns-in-Ok-frame_from-clause-frame g c =
    let cell = subst (Writes (g.T.ToSql.wire (content c.args.element.now) c.args.value.now) c.put_i32.new.self.items
    c.to_sql.new.out.items) (c.in-Ok.is ∙ ap Ok (not_null c.in-Ok.is_null c.in_default.not-Yes))
    c.to_sql.ensures.writes in
    let framed = subst (FramesFrom c.len-start.result c.to_sql.new.out.items c.frame_from.new.out.items)
    c.in-Ok-frame_from.is c.frame_from.ensures.frame in
    some_after_cell _ _ _ _ _ _ _ c.len-start.ensures.value refl c.in_ok-put_i32.ensures.ok cell framed
