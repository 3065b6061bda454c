-- What the proof of `oidvector_says_its_numbers` answers by hand.
use Rattle.pg_text.proofs.ReadBack.{oidvector_says}
use Rattle.pg_text.proofs.arrays.oidvector_says_its_numbers.Goals as goal

pub returns : goal.returns
returns c = λ v text fit shown. oidvector_says v.items text fit shown
