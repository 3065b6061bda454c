-- What the proof of `reason` answers by hand.
use Rattle.std.proofs.Common.{sym}
use Rattle.pg_client.specs.WholeCatalogs.{IsStuck}
use Rattle.pg_client.specs.declared.catalog.refused.TypeFault.TheVariants.{Unknown}
use Rattle.pg_client.proofs.RefusedReasons.{recursive_stuck}
use Rattle.pg_client.proofs.catalog.left.Left.reason.Goals as goal

pub returns-then-contains_key : goal.returns-then-contains_key
returns-then-contains_key c = λ table rows firsts stuck.
    let part = c.in-Unknown.part in
    let own : IsStuck table rows c.args.self.now.place (Unknown part) = rw c.in-Unknown.is at stuck in
    recursive_stuck table rows c.args.firsts.now c.args.self.now.place part (sym c.if-contains_key.ensures) firsts own
