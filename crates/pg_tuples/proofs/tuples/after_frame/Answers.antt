-- What the proof of `after_frame` answers by hand.
use Rattle.std.proofs.Common.{◌≡◌, ◌++◌, Some, arith, length, pos}
use Rattle.std.proofs.lemmas.Int.{ints}
use Rattle.std.proofs.lemmas.Grind.{common_steps}
use Rattle.pg_base.proofs.FrameLaws.{cell_after_length}
use Rattle.pg_tuples.proofs.tuples.after_frame.Goals as goal

pub returns-clause-some : goal.returns-clause-some
returns-clause-some c =
    let number = c.in-Ok.ensures.outcome in
    let cell = c.split_at.result.0.now in
    let rest = c.split_at.result.1.now in
    let is : c.in-Ok.len ≡ pos (length cell) = omega (arith, ints) in
    let parts : c.in-Ok.rest.now ≡ cell ++ rest = grind (arith, common_steps) in
    let spelled =
    cell_after_length c.args.bytes.now number.0 c.in-Ok.rest.now cell rest c.in-Ok.len number.1 number.2 is
    parts in
    (Some cell, spelled.0, spelled.2, spelled.1)
