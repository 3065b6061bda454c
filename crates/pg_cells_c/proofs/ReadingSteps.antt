-- Steps of readers: what a call answered is stored.
use Rattle.std.specs.Prelude.{◌≡◌, ℕ, Option, Some, None, Result, Ok, Err, IfSome, IsSome}
use Rattle.std.specs.Option.{option_map_or}
use Rattle.std.proofs.Common.{sym, subst, inl, inr}
use Rattle.pg_types.specs.declared.fault.Fault.{Fault}
use Rattle.pg_types.specs.Faults.{Answers, NeverMemory, Outcome, Refusal, number_of, refusal_of}
use Rattle.pg_cells_c.specs.Readings.{IsRefused, ReadsInto, Stores}

refused : {A : Type 0} (R : Outcome A → Type 0) (fault : Option Refusal) (old new : A) (code : ℕ)
    → IfSome fault (λ r. R (Err r)) → IsSome fault → code ≡ option_map_or number_of fault 1 → new ≡ old
    → IsRefused R old new code
refused R (Some r) old new code allowed is number same = (r, number, allowed, same)
refused R None old new code allowed is number same = absurd (cc)

-- what is stored of an answer that R allows, and that is not out of memory, is read into the variable
pub reads_into : {A : Type 0} (R : Outcome A → Type 0) (read : Result A Fault) (old new : A) (code : ℕ)
    → Stores read old new code → Answers R read → NeverMemory read → ReadsInto R old new code
unfolding ReadsInto
reads_into R (Ok v) old new code stores allowed _ =
    inl (stores.stored.0, subst (λ it. R (Ok it)) (sym stores.stored.1) allowed)
reads_into R (Err f) old new code stores allowed some =
    inr (refused R (refusal_of f) old new code allowed some stores.refused.0 stores.refused.1)
