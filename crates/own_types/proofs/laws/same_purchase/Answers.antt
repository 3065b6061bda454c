-- What the proof of `same_purchase` answers by hand.
use Rattle.own_types.proofs.laws.same_purchase.Goals as goal

pub returns : goal.returns
returns c = c.eq.ensures
