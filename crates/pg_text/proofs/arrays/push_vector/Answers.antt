-- What the proof of `push_vector` answers by hand.
use Rattle.pg_text.proofs.Joins.{join_step}
use Rattle.pg_text.proofs.arrays.push_vector.Goals as goal

pub loop-place-preserved : goal.loop-place-preserved
loop-place-preserved g c =
    join_step g.I.Integer.text 32 c.args.numbers.now c.loop-place.place c.index-numbers-place.result
    c.args.out.now.items c.loop-place.out.items c.push_separator.new.out.items c.push_number.new.out.items
    c.loop-place-test.true c.index-numbers-place.is c.loop-place.invariant c.in_ok-push_separator.ensures
    c.in_ok-push_number.ensures
