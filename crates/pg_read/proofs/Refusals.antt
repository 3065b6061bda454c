-- Refusals of a format with more checks.
use Rattle.std.proofs.Common.{◌≡◌, ℕ, List, [], ◌∷◌, ◌++◌, Bool, true, false, Option, Some, None, Result, Ok, Err}
use Rattle.std.proofs.Common.{drop}
use Rattle.std.specs.Prelude.{IfSome, IsErrAnd, slice_index}
use Rattle.pg_types.specs.Faults.{Refusal, Answers, refusal_of}
use Rattle.pg_base.specs.Formats.{Decodes, first_fault_of}
use Rattle.pg_base.specs.Network.{FormCidr, FormInet, Network, first_fault_inet, first_fault_cidr}
use Rattle.pg_base.specs.Network.{head_len, host_check, inet_checks}
use Rattle.pg_types.specs.declared.fault.Fault.{Fault}

-- the first check that fails is the first with more checks after it too
first_fault-more : (checks more : List (Bool × Refusal)) (r : Refusal) → first_fault_of checks ≡ Some r
    → first_fault_of (checks ++ more) ≡ Some r
first_fault-more [] more r h = cc
first_fault-more ((true, f) ∷ checks) more r h = first_fault-more checks more r h
first_fault-more ((false, f) ∷ checks) more r h = h

-- and so is the fault, where there is one
refused-more : (checks more : List (Bool × Refusal)) (o : Option Refusal)
    → IfSome o (λ r. first_fault_of checks ≡ Some r) → IfSome o (λ r. first_fault_of (checks ++ more) ≡ Some r)
refused-more checks more None h = tt
refused-more checks more (Some r) h = first_fault-more checks more r h

-- what INET refuses CIDR refuses alike
pub cidr_refused : (b : List ℕ) (f : Fault) (r : Result Network Fault) → IsErrAnd r (λ g. g ≡ f)
    → Answers (Decodes FormInet first_fault_inet b) (Err f) → Answers (Decodes FormCidr first_fault_cidr b) r
cidr_refused b f (Ok n) is h = absurd is
cidr_refused b f (Err g) is h =
    refused-more (inet_checks b) (host_check (drop head_len b) (slice_index b 1) ∷ []) (refusal_of g)
    (rw is h)
