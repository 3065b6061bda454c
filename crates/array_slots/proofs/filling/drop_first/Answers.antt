-- What the proof of `drop_first` answers by hand.
use Rattle.std.proofs.Common.{refl, ◌∙◌, inl, false, ◌+◌, arith}
use Rattle.core.proofs.slots.Fills.{Filled-apart, Filled-within}
use Rattle.array_slots.proofs.filling.drop_first.Goals as goal

pub loop-i-init : goal.loop-i-init
loop-i-init g c = (record { start = refl; count = refl }, c.requires.0, c.requires.1)

pub take-requires : goal.take-requires
take-requires g c =
    let inside = c.loop-i.invariant in
    (omega (arith, inside.1), inside.2 c.loop-i.i (omega arith) c.loop-i-test.true)

pub overflow_add-i : goal.overflow_add-i
overflow_add-i g c = omega arith

pub loop-i-smaller : goal.loop-i-smaller
loop-i-smaller g c = omega arith

pub loop-i-preserved : goal.loop-i-preserved
loop-i-preserved g c =
    let l = c.loop-i in let n = c.args.count in let taken = c.take.ensures in
    let later = Filled-within l.places.filled l.i n (l.i + 1) n (omega arith) (omega arith) l.invariant.2 in (
      record {
        start = taken.places.start ∙ l.invariant.0.start;
        count = taken.places.count ∙ l.invariant.0.count;
      },
      omega (arith, l.invariant.1, taken.places.count),
      Filled-apart l.places.filled _ l.i false (l.i + 1) n taken.filled (inl (omega arith)) later,
    )

pub returns : goal.returns
returns g c = c.loop-i.invariant.0
