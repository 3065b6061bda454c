-- Lemmas on values and faults.
use Rattle.std.proofs.Common.{◌≡◌, Option, Some, None, subst, sym}
use Rattle.std.specs.Prelude.{IfSome, MatchOption, MatchResult, Ok, Err, Result}
use Rattle.std.specs.Result.{IsErrAnd}

-- a value that is there is returned, and another one is refused with a fault of which Q holds
pub value_or_fault : {A E : Type 0} (found : Option A) (result : Result A E) (Refused : Type 0) (P : A → Type 0)
    (Made Q : E → Type 0) → MatchOption found (IsErrAnd result Made) (λ x. result ≡ Ok x)
    → MatchOption found Refused P → (Refused → (fault : E) → Made fault → Q fault) → MatchResult result P Q
value_or_fault (Some x) result Refused P Made Q cases is why = subst (λ r. MatchResult r P Q) (sym cases) is
value_or_fault None (Ok y) Refused P Made Q cases is why = absurd cases
value_or_fault None (Err fault) Refused P Made Q cases is why = why is fault cases

-- what follows where a value was set
pub then_set : {A : Type 0} (Refused P : Type 0) (Q : A → Type 0) (result : Option A)
    → MatchOption result Refused (λ _. P) → (P → (x : A) → Q x) → IfSome result Q
then_set Refused P Q (Some x) is next = next is x
then_set Refused P Q None is next = tt
