-- What the proof of `fill` answers by hand.
use Rattle.std.proofs.Common.{◌≡◌, refl, sym, ap, ◌∙◌, ◌+◌, ◌<◌, [], ◌∷◌, ◌++◌, take, arith, add-one, length-append}
use Rattle.std.proofs.Common.{take_all, take-suc-set}
use Rattle.core.proofs.slots.Fills.{Filled-put, Filled-none, Filled-within}
use Rattle.array_slots.proofs.Chains.{first_put, gives_more}
use Rattle.array_slots.proofs.filling.fill.Goals as goal

pub loop-i-init : goal.loop-i-init
loop-i-init g c =
    let old = c.args.places in let put = c.put.ensures in (
      put.places,
      omega (arith, c.requires.some, put.places.count),
      Filled-put old.filled _ 0 0 1 put.filled (omega (arith, c.requires.some, old.ok.1))
          (Filled-none _ _ _ (omega arith)) (Filled-none _ _ _ (omega arith)),
      ([], first_put old.items _ c.args.first (omega (arith, c.requires.some, old.ok.0)) put.items, refl, refl),
      c.requires.ready,
    )

pub drop_first-requires : goal.drop_first-requires
drop_first-requires g c = (c.loop-i.invariant.1, c.loop-i.invariant.2)

pub returns-in-None-clause-same : goal.returns-in-None-clause-same
returns-in-None-clause-same g c = record {
  start = c.drop_first.ensures.start ∙ c.loop-i.invariant.0.start;
  count = c.drop_first.ensures.count ∙ c.loop-i.invariant.0.count;
}

pub returns-in-None-clause-values : goal.returns-in-None-clause-values
returns-in-None-clause-values g c =
    let l = c.loop-i in let given = l.invariant.3 in (
      given.0,
      l.source,
      given.3,
      omega (arith, given.2, c.loop-i-test.true, c.len.ensures, l.invariant.0.count),
      c.in-None.ensures,
    )

pub loop-i-preserved : goal.loop-i-preserved
loop-i-preserved g c =
    let l = c.loop-i in let x = c.in-Some.element in let put = c.put-in-Some.ensures in let given = l.invariant.3 in
    let inside : l.i < l.places.len = omega (arith, c.loop-i-test.true, c.len.ensures) in
    let one_more : take (l.i + 1) c.put-in-Some.new.self.items ≡ take l.i l.places.items ++ x ∷ []
    = (λ k. take (add-one l.i k) (put.items k)) ∙ take-suc-set l.places.items l.i x (omega (arith, l.places.ok.0)) in (
      record { start = put.places.start ∙ l.invariant.0.start; count = put.places.count ∙ l.invariant.0.count },
      omega (arith, put.places.count),
      Filled-put l.places.filled _ l.i 0 (l.i + 1) put.filled (omega (arith, l.places.ok.1)) l.invariant.2
          (Filled-none _ _ _ (omega arith)),
      (
        given.0 ++ x ∷ [],
        one_more ∙ ap (λ xs. xs ++ x ∷ []) given.1,
        omega (arith, given.2, length-append given.0 (x ∷ [])),
        gives_more g.S.ElementSource.gives _ given.0 _ x _ given.3 c.in-Some.ensures.0,
      ),
      c.in-Some.ensures.1,
    )

pub returns-clause-same : goal.returns-clause-same
returns-clause-same g c = c.loop-i.invariant.0

pub returns-clause-full : goal.returns-clause-full
returns-clause-full g c = λ h.
    Filled-within _ 0 c.loop-i.i 0 c.loop-i.places.len (omega arith) (omega (arith, c.loop-i-test.false, c.len.ensures))
    c.loop-i.invariant.2

pub returns-clause-values : goal.returns-clause-values
returns-clause-values g c =
    let l = c.loop-i in let given = l.invariant.3 in
    let all = take_all l.i l.places.items (omega (arith, l.places.ok.0, c.loop-i-test.false, c.len.ensures)) in
    (given.0, sym all ∙ given.1, given.3)
