-- What the proof of `insert` answers by hand.
use Rattle.std.proofs.Common.{arith, sym, ◌∙◌, subst}
use Rattle.std.proofs.lemmas.Grind.{common_steps}
use Rattle.std.specs.Ordering.{nat_cmp}
use Rattle.std.specs.BTreeMap.{get}
use Rattle.std.specs.Prelude.{Some, ◌≡◌}
use Rattle.pg_client.specs.CatalogTypes.{IsUnknown, table_of}
use Rattle.pg_client.proofs.CatalogGrowth.{where_none}
use Rattle.pg_client.proofs.catalog.Catalog.insert.Goals as goal

pub invariant_of-self : goal.invariant_of-self
invariant_of-self c =
    let own = c.args.self.now.own_oids in
    let made = c.oid-oid.ensures in
    record { own_oids = λ q x. grind (arith, common_steps, own q x, made) }

pub returns-clause-ok : goal.returns-clause-ok
returns-clause-ok c =
    let updates = c.in_ok-insert.ensures.updates in
    let made = c.oid-oid.ensures in (
      subst (IsUnknown (table_of c.args.self.now)) made
          (where_none c.get.result (sym c.is_some.ensures ∙ c.if-is_some.false) c.get.ensures.none),
      subst (λ oid. get nat_cmp c.insert.new.self oid ≡ Some c.args.ty) made updates.1,
      λ oid other. grind (arith, common_steps, updates.0 oid, made, other),
    )
