-- What the proof of `frame_from` answers by hand.
use Rattle.std.proofs.Common.{◌≡◌, ◌<◌, ◌≤◌, ◌-◌, ◌+◌, drop, length, arith, refl, length-drop}
use Rattle.pg_base.proofs.Concat.{long_frame}
use Rattle.pg_write.proofs.ParamFrames.{frame_bytes}
use Rattle.pg_base.specs.Cells.{max_length}
use Rattle.pg_base.specs.Counts.{number_width}
use Rattle.pg_write.proofs.params.frame_from.Goals as goal

pub returns-then-len-gt-MAX_LEN-clause-frame : goal.returns-then-len-gt-MAX_LEN-clause-frame
returns-then-len-gt-MAX_LEN-clause-frame c =
    let cell = drop (c.args.start + number_width) c.args.out.now.items in
    let many : max_length < length cell =
    omega (
      arith,
      c.if-len-gt-MAX_LEN.true,
      c.len.ensures.value,
      length-drop
          (c.args.start + number_width) c.args.out.now.items,
    ) in
    (refl, refl, long_frame cell many)

pub returns-clause-frame : goal.returns-clause-frame
returns-clause-frame c =
    let cell = drop (c.args.start + number_width) c.args.out.now.items in
    let len = c.len.result - c.args.start - number_width in
    let same : len ≡ length cell = omega
    (arith, c.len.ensures.value, length-drop (c.args.start + number_width) c.args.out.now.items) in
    let few : length cell ≤ max_length = omega (arith, same, c.if-len-gt-MAX_LEN.false) in
    (_, frame_bytes cell len few same, c.set_number.ensures.items)
