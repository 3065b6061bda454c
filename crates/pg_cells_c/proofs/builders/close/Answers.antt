-- What the proof of `close` answers by hand.
use Rattle.std.specs.Prelude.{Some, length, refl}
use Rattle.pg_cells_c.proofs.PushSteps.{narrow}
use Rattle.pg_cells_c.specs.Writings.{no_cell}
use Rattle.pg_cells_c.proofs.builders.close.Goals as goal

pub returns-then-builder-head : goal.returns-then-builder-head
returns-then-builder-head c =
    let h = c.args.head.now in
    narrow (length h) (Some h) c.args.builder.now c.args.out.now c.args.out.now no_cell c.if-builder-head.true refl refl
