-- What the proof of `add` answers by hand.
use Rattle.std.proofs.Common.{arith}
use Rattle.std.proofs.lemmas.Grind.{common_steps}
use Rattle.pg_client.proofs.catalog.Catalog.add.Goals as goal

-- src/catalog.rt:130:9
pub invariant_of-self : goal.invariant_of-self
invariant_of-self c =
    let own = c.args.self.now.own_oids in
    let made = c.in_ok-ty.ensures.ty in
    record { own_oids = λ q x. grind (arith, common_steps, own q x, made) }
