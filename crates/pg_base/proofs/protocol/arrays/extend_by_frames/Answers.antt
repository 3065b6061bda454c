-- What the proof of `extend_by_frames` answers by hand.
use Rattle.std.proofs.Common.{◌+◌, None, Some, take, drop, sym, subst}
use Rattle.pg_base.specs.Appending.{Extends, HasRoomFor}
use Rattle.pg_base.specs.Arrays.{cells_of}
use Rattle.pg_base.specs.Cells.{frame, frames}
use Rattle.pg_base.proofs.CellsByLength.{at_next, cell_framed, next_has_room, none_found, null_framed, some_found}
use Rattle.pg_base.proofs.protocol.arrays.extend_by_frames.Goals.{in-None, in-Some}
use Rattle.pg_base.proofs.protocol.arrays.extend_by_frames.Goals as goal

pub extend_by_frame-requires : goal.extend_by_frame-requires
extend_by_frame-requires c =
    let lens = c.args.lens.now in
    let i = c.loop-len.len-index in
    let rest = c.loop-len.rest.now in
    let all = frames (cells_of c.args.scratch.now lens) in
    let here = at_next all rest lens i None None c.args.out.now c.loop-len.out c.loop-len-test.true c.in-None.is
    c.loop-len.invariant.0 in
    next_has_room all (frame None) (frames (cells_of rest (drop (i + 1) lens))) c.args.out.now c.loop-len.out
    c.requires.room here.1

pub extend_by_frame-requires-in-Some : goal.extend_by_frame-requires-in-Some
extend_by_frame-requires-in-Some c =
    let lens = c.args.lens.now in
    let i = c.loop-len.len-index in
    let n = c.in-Some.len in
    let rest = c.loop-len.rest.now in
    let all = frames (cells_of c.args.scratch.now lens) in
    let here = at_next all rest lens i None (Some n) c.args.out.now c.loop-len.out c.loop-len-test.true c.in-Some.is
    c.loop-len.invariant.0 in
    let room = next_has_room all (frame (Some (take n rest))) (frames (cells_of (drop n rest) (drop (i + 1) lens)))
    c.args.out.now c.loop-len.out c.requires.room here.1 in
    subst (λ b. HasRoomFor (frame (Some b)) c.loop-len.out.spare) (sym c.split_at.ensures.front) room

pub loop-len-preserved : goal.loop-len-preserved
loop-len-preserved c =
    let lens = c.args.lens.now in
    let i = c.loop-len.len-index in
    let rest = c.loop-len.rest.now in
    let start = c.args.out.now in
    let out = c.loop-len.out in
    let all = frames (cells_of c.args.scratch.now lens) in
    let found = c.loop-len.has_null in
    let so_far = c.loop-len.invariant in
    elim c.match-len.branch [
      | in-None w ↦
          let here = at_next all rest lens i None None start out c.loop-len-test.true w.in-None.is so_far.0
          in
          rw (w.out-is, w.rest-is, w.has_null-is) (
            null_framed all rest (drop (i + 1) lens) start out w.extend_by_frame.new.out here w.extend_by_frame.ensures,
            none_found found lens i None c.loop-len-test.true w.in-None.is so_far.1,
          )
      | in-Some w ↦
          let n = w.in-Some.len in
          let here = at_next all rest lens i None (Some n) start out c.loop-len-test.true w.in-Some.is so_far.0
          in
          let done = w.extend_by_frame-in-Some.new.out in
          let cell = subst (λ b. Extends (frame (Some b)) out done) w.split_at.ensures.front
          w.extend_by_frame-in-Some.ensures in
          rw (w.out-is, w.rest-is, w.has_null-is, w.split_at.ensures.back) (
            cell_framed all rest n (drop (i + 1) lens) start out done here cell,
            some_found found lens i None c.loop-len-test.true n w.in-Some.is so_far.1,
          )
    ]
