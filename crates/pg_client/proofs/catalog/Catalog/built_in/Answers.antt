-- What the proof of `built_in` answers by hand.
use Rattle.std.proofs.Common.{subst, sym, IfOk, Ok, Err, Result}
use Rattle.pg_client.specs.CatalogTypes.{AreListed}
use Rattle.pg_client.proofs.catalog.Catalog.built_in.Goals as goal

-- what holds of a value, if there is one, by two reasons
both : {T E : Type 0} {P Q R : T → Type 0} → ((v : T) → P v → Q v → R v) → (result : Result T E) → IfOk result P
    → IfOk result Q → IfOk result R
both joined (Ok v) p q = joined v p q
both joined (Err e) p q = tt

pub returns-clause-types : goal.returns-clause-types
returns-clause-types c =
    let listed = subst AreListed (sym c.as_slice.ensures.value) c.in_ok-rows.ensures.listed in
    both (λ catalog described told. (c.as_slice.result.now, listed, described, told)) c.new.result
    c.new.ensures.described c.new.ensures.told
