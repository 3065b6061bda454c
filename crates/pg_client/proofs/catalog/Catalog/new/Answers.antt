-- What the proof of `new` answers by hand.
use Rattle.std.proofs.Common.{rules, ◌≡◌, inl, inr, ⊎_elim}
use Rattle.std.specs.List.{AllZip, Contains}
use Rattle.std.proofs.lemmas.Option.{slice_get_within}
use Rattle.pg_client.specs.WholeCatalogs.{AreDescribed, IsMadeAt, IsRefusal, places_left}
use Rattle.pg_client.proofs.CatalogGrowth.{none_described}
use Rattle.pg_client.proofs.RefusedRows.{refused_by_place, refused_of_left}
use Rattle.pg_client.proofs.catalog.Catalog.new.Goals as goal

pub returns-clause-described : goal.returns-clause-described
returns-clause-described c =
    let none = none_described c.own-catalog.result.types c.args.rows.now c.own-catalog.ensures.types in
    let all : AreDescribed c.add_rest.new.self.types c.args.rows.now =
    c.in_ok-left.ensures.grows.1 (c.in_ok-add_each.ensures.grows.1 none) in
    rw c.in_ok-refuse_each.ensures.types all

pub returns-clause-told : goal.returns-clause-told
returns-clause-told c = λ place row at.
    let rows = c.args.rows.now in
    let end = c.refuse_each.new.self in
    let left = c.in_ok-left.left.items in
    let same : c.as_slice-2.result.now ≡ left = search rules in
    let refused : AllZip (λ own. IsRefusal end.types rows own.place) left end.refused.items =
    rw same at c.in_ok-refuse_each.ensures.refused in
    ⊎_elim
    (λ (made : IsMadeAt c.add_rest.new.self.types rows place). inl (rw c.in_ok-refuse_each.ensures.types (made row at)))
    (λ (among : Contains (places_left left) place).
    inr (refused_of_left (IsRefusal end.types rows) left end.refused.items place refused among))
    (c.in_ok-left.ensures.all place (slice_get_within rows place row at))

pub returns-clause-refused : goal.returns-clause-refused
returns-clause-refused c =
    let rows = c.args.rows.now in
    let end = c.refuse_each.new.self in
    let left = c.in_ok-left.left.items in
    let same : c.as_slice-2.result.now ≡ left = search rules in
    let refused : AllZip (λ own. IsRefusal end.types rows own.place) left end.refused.items =
    rw same at c.in_ok-refuse_each.ensures.refused in
    (places_left left, c.in_ok-left.ensures.order, refused_by_place (IsRefusal end.types rows) left end.refused.items refused)
