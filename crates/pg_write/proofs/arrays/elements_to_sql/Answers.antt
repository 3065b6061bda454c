-- What the proof of `elements_to_sql` answers by hand.
use Rattle.std.proofs.Common.{[], arith, append-nil, refl, sym}
use Rattle.pg_types.specs.Content.{content}
use Rattle.pg_types.specs.Faults.{refusal_of}
use Rattle.pg_write.proofs.ElementFrames.{all_elements, next_element, refused_element}
use Rattle.pg_write.proofs.ParamLists.{had_no_room}
use Rattle.pg_write.proofs.ParamRoom.{each_at}
use Rattle.pg_write.proofs.arrays.elements_to_sql.Goals as goal

pub loop-value-init : goal.loop-value-init
loop-value-init g c = (
  (
    record {
      cells = [];
      bytes = [];
      cells_are = refl;
      frames_are = refl;
      is = sym (append-nil c.args.out.now.items);
    },
    refl,
  ),
  omega arith,
)

pub loop-value-preserved : goal.loop-value-preserved
loop-value-preserved g c =
    let appended = rw c.in-Ok.is at c.element_to_sql.ensures.frame in (
      next_element (g.T.ToSql.wire (content c.args.element.now)) c.args.values.now c.loop-value.value-index _
          c.loop-value-test.true c.value-item.is c.args.out.now.items c.loop-value.out.items c.element_to_sql.new.out.items
          c.loop-value.has_null c.in-Ok.is_null c.loop-value.invariant.0 appended,
      omega (arith, c.loop-value.invariant.1, c.element_to_sql.ensures.capacity),
    )

pub returns-in-Err-clause-frames : goal.returns-in-Err-clause-frames
returns-in-Err-clause-frames g c =
    let refused = rw c.in-Err.is at c.element_to_sql.ensures.frame in
    refused_element (g.T.ToSql.wire (content c.args.element.now)) c.args.values.now c.loop-value.value-index _
    c.loop-value-test.true c.value-item.is c.in-Err.fault c.args.out.now.items c.loop-value.out.items
    c.element_to_sql.new.out.items c.loop-value.has_null c.loop-value.invariant.0 refused

pub returns-clause-frames : goal.returns-clause-frames
returns-clause-frames g c =
    all_elements (g.T.ToSql.wire (content c.args.element.now)) c.args.values.now c.args.out.now.items
    c.loop-value.out.items c.loop-value.value-index c.loop-value.has_null c.loop-value-test.false
    c.loop-value.invariant.0

pub returns-in-Err-clause-room : goal.returns-in-Err-clause-room
returns-in-Err-clause-room g c = λ all.
    let here = each_at g.T.ToSql.by_room c.args.values.now c.loop-value.value-index _ c.loop-value-test.true c.value-item.is
    all in
    had_no_room (g.T.ToSql.wire (content c.args.element.now)) c.args.values.now c.loop-value.value-index _
    c.loop-value-test.true c.value-item.is c.args.out.now c.loop-value.out c.loop-value.invariant.1
    c.loop-value.invariant.0.0 (refusal_of c.in-Err.fault) ((rw c.in-Err.is at c.element_to_sql.ensures.room) here)
