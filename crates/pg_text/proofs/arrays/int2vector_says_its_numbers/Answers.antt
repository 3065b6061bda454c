-- What the proof of `int2vector_says_its_numbers` answers by hand.
use Rattle.pg_text.proofs.ReadBack.{int2vector_says}
use Rattle.pg_text.proofs.arrays.int2vector_says_its_numbers.Goals as goal

pub returns : goal.returns
returns c = λ v text fit shown. int2vector_says v.items text fit shown
