-- What the proof of `same_parcel` answers by hand.
use Rattle.own_types.proofs.laws.same_parcel.Goals as goal

pub returns : goal.returns
returns c = c.eq.ensures
