-- What the proof of `try_from_source` answers by hand.
use Rattle.array_slots.proofs.Chains.{answers_array}
use Rattle.array_slots.proofs.try_from_source.Goals as goal

pub returns : goal.returns
returns g c =
    answers_array g.S.ElementSource.gives g.S.ElementSource.stops g.S.Finish.stopped_at g.S.Finish.finishes
    c.args.source g.row.N c.read_elements.result _ c.read_elements.ensures c.check_end.ensures
