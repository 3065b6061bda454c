-- What the proof of `frame_len` answers by hand.
use Rattle.std.proofs.Common.{negsuc, refl}
use Rattle.std.specs.Int.{w32}
use Rattle.pg_base.specs.Cells.{be}
use Rattle.pg_base.proofs.Concat.{short_frame}
use Rattle.pg_base.proofs.protocol.frames.frame_len.Goals as goal

pub returns-in_default-clause-len : goal.returns-in_default-clause-len
returns-in_default-clause-len c = (be w32 (negsuc 0), rw c.in_default.is refl, refl)

pub returns-clause-len : goal.returns-clause-len
returns-clause-len c =
    let short = short_frame c.in-Some.bytes.now c.if-bytes-gt-MAX_LEN.false in
    (short.0, rw c.in-Some.is short.1, short.2)
