-- What the proof of `add_rest` answers by hand.
use Rattle.std.proofs.Common.{refl, ◌∙◌, inr, length}
use Rattle.pg_client.proofs.CatalogGrowth.{grows_both, grows_same}
use Rattle.pg_client.proofs.RefusedRows.{all_ascend, each_place, next_told}
use Rattle.pg_client.proofs.catalog.Catalog.add_rest.Goals as goal

pub loop-waiting-init : goal.loop-waiting-init
loop-waiting-init c = record {
  grows = grows_same c.args.rows.now c.args.self.now.types c.args.self.now.types refl;
  all = λ place short. inr (rw c.in_ok-waiting.ensures (each_place (length c.args.rows.now) place short));
  order = rw c.in_ok-waiting.ensures (all_ascend (length c.args.rows.now));
  refused = refl;
}

pub returns-then-len-clause-grows : goal.returns-then-len-clause-grows
returns-then-len-clause-grows c =
    grows_both c.args.rows.now c.args.self.now.types c.loop-waiting.self.types c.add_each.new.self.types
    c.loop-waiting.invariant.grows c.in_ok-left.ensures.grows

pub returns-then-len-clause-all : goal.returns-then-len-clause-all
returns-then-len-clause-all c = λ place short.
    next_told c.args.rows.now c.loop-waiting.self.types c.add_each.new.self.types c.loop-waiting.waiting.items
    c.in_ok-left.left.items place c.in_ok-left.ensures.grows (rw c.as_slice.ensures.value at c.in_ok-left.ensures.all)
    (c.loop-waiting.invariant.all place short)

pub loop-waiting-preserved : goal.loop-waiting-preserved
loop-waiting-preserved c =
    let rows = c.args.rows.now in
    let before = c.loop-waiting.self.types in
    let after = c.add_each.new.self.types in
    record {
      grows = grows_both rows c.args.self.now.types before after c.loop-waiting.invariant.grows c.in_ok-left.ensures.grows;
      all = λ place short. rw (c.in_ok-waiting-2.ensures, c.as_slice-in-loop-waiting.ensures.value) (next_told rows before after c.loop-waiting.waiting.items
          c.in_ok-left.left.items place c.in_ok-left.ensures.grows
          (rw c.as_slice.ensures.value at c.in_ok-left.ensures.all) (c.loop-waiting.invariant.all place short));
      order = rw (c.in_ok-waiting-2.ensures, c.as_slice-in-loop-waiting.ensures.value) (c.in_ok-left.ensures.order
          (rw c.as_slice.ensures.value c.loop-waiting.invariant.order));
      refused = c.in_ok-left.ensures.refused ∙ c.loop-waiting.invariant.refused;
    }

pub returns-then-len-clause-order : goal.returns-then-len-clause-order
returns-then-len-clause-order c =
    c.in_ok-left.ensures.order (rw c.as_slice.ensures.value c.loop-waiting.invariant.order)
