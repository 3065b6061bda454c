-- What the proof of `take_cell` answers by hand.
use Rattle.std.proofs.Common.{◌≡◌, ◌++◌, arith, length, pos}
use Rattle.std.proofs.lemmas.Int.{ints}
use Rattle.std.proofs.lemmas.Grind.{common_steps}
use Rattle.pg_base.proofs.FrameLaws.{cell_after_length}
use Rattle.pg_read.proofs.private.take_cell.Goals as goal

pub returns : goal.returns
returns c =
    let number = c.in_ok-len.ensures in
    let cell = c.split_at.result.0.now in
    let rest = c.split_at.result.1.now in
    let is : c.in_ok-len.len ≡ pos (length cell) = omega (arith, ints) in
    let parts : c.read_be_i32.new.buf.now ≡ cell ++ rest = grind (arith, common_steps) in
    cell_after_length c.args.buf.now.now number.0 c.read_be_i32.new.buf.now cell rest c.in_ok-len.len number.1 number.2
    is parts
