-- What the proof of `step` answers by hand.
use Rattle.pg_cells_c.specs.Walks.{StepsInto}
use Rattle.pg_cells_c.proofs.items.step.Goals as goal

pub returns : goal.returns
unfolding StepsInto
returns g c = (c.next_item.result, c.next_item.ensures, c.tell.ensures)
