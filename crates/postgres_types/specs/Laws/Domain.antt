-- A domain that is accepted has an underlying type that is accepted, and both directions accept the same.
use Rattle.std.specs.Prelude.{◌≡◌, ℕ, ◌&&◌, List, Bool, IsTrue}
use Rattle.std.proofs.Common.{ap}
use Rattle.std.proofs.lemmas.Bool.{and_parts}
use Rattle.pg_types.specs.Content.{Content}
use Rattle.postgres_types.specs.Domains.{accepts_domain, is_domain, underlying}

-- the underlying type of a domain that is accepted is accepted
pub underlying_accepted : (name : List ℕ) (accepted : Content → Bool) (ty : Content)
    → IsTrue (accepts_domain name accepted ty) → IsTrue (accepted (underlying ty))
underlying_accepted name accepted ty ok = (and_parts (is_domain name ty) (accepted (underlying ty)) ok).1

-- the same domains are read and written if the same underlying types are
pub domain_types : (name : List ℕ) (reading writing : Content → Bool) → ((ty : Content) → reading ty ≡ writing ty)
    → (ty : Content) → accepts_domain name reading ty ≡ accepts_domain name writing ty
domain_types name reading writing same ty = ap (λ t. is_domain name ty && t) (same (underlying ty))
