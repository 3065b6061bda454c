-- Steps of reading the items after a count.
use Rattle.std.proofs.Common.{◌≡◌, ℕ, zero, suc, List, Some, sym, ◌∙◌, ap, refl}
use Rattle.pg_base.specs.Counts.{checks_of_next, next_checks, ToRead}
use Rattle.pg_types.specs.Faults.{Refusal}
use Rattle.pg_base.specs.Formats.{Checks, first_fault_of}

fault_of_next : (item : List ℕ → Checks) (n : ℕ) (s : List ℕ) (x : Refusal) → (n ≡ 0 → ⊥)
    → first_fault_of (item s) ≡ Some x → first_fault_of (checks_of_next item n s) ≡ Some x
fault_of_next item zero s x h e = absurd (h refl)
fault_of_next item (suc n) s x h e = e

-- where items are still to come, the next item's fault is the next fault
pub item_fault_next : (item : List ℕ → Checks) (r : ToRead) (n : ℕ) (s : List ℕ) (x : Refusal)
    → record { left = n; bytes = s } ≡ r → (n ≡ 0 → ⊥) → first_fault_of (item s) ≡ Some x
    → first_fault_of (next_checks item r) ≡ Some x
item_fault_next item r n s x is h e = ap (λ (r : ToRead). first_fault_of (next_checks item r)) (sym is)
    ∙ fault_of_next item n s x h e
