-- What the proof of `first_places` answers by hand.
use Rattle.std.proofs.Common.{arith, rules, sym, ◌≡◌, None, Some, slice_get, refl}
use Rattle.std.proofs.lemmas.Option.{slice_get_read, slice_get_within}
use Rattle.std.specs.BTreeMap.{get}
use Rattle.std.specs.Ordering.{nat_cmp}
use Rattle.pg_client.proofs.FirstRows.{firsts_kept, firsts_more}
use Rattle.pg_client.proofs.catalog.firsts.first_places.Goals as goal
use Rattle.pg_client.proofs.catalog.firsts.first_places.Goals.{then-not-contains_key+in_ok-insert, else-not-contains_key}

pub loop-place-preserved : goal.loop-place-preserved
loop-place-preserved c =
    let rows = c.args.rows.now in
    let end = c.loop-place.place in
    let row = c.index-rows-place.result in
    let here : slice_get rows end ≡ Some row = slice_get_read rows _ end row refl c.loop-place-test.true c.index-rows-place.is in
    elim c.if-not-contains_key.branch [
      | then-not-contains_key+in_ok-insert w ↦
          let none : get nat_cmp c.loop-place.firsts row.oid ≡ None = search (rules, w.if-not-contains_key.ensures) in
          rw w.firsts-is (firsts_more rows c.loop-place.firsts w.insert.new.self end row here none
          w.in_ok-insert.ensures.updates c.loop-place.invariant)
      | else-not-contains_key w ↦ rw w.firsts-is (firsts_kept rows c.loop-place.firsts end row here
          (sym w.if-not-contains_key.ensures) c.loop-place.invariant)
    ]

pub returns : goal.returns
returns c = (
  λ oid place found. let own = c.loop-place.invariant.0 oid place found in (own.0, own.1),
  λ place row at.
      c.loop-place.invariant.1 place row (omega (arith, slice_get_within c.args.rows.now place row at)) at,
)
