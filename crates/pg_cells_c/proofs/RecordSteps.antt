-- Steps of walks over the fields of a record.
use Rattle.std.specs.Prelude.{◌≡◌, ℕ, ◌-◌, List, [], ◌∷◌, ◌++◌, Bool, true, false, length, drop, Option, Some, refl}
use Rattle.std.specs.Borrow.{Bor}
use Rattle.std.specs.Int.{w32, to_be_bytes}
use Rattle.std.proofs.Common.{arith, ap, sym, subst, ◌∙◌, append_assoc}
use Rattle.std.proofs.lemmas.Bool.Decides.{nat_tests}
use Rattle.std.proofs.lemmas.List.{length-append}
use Rattle.pg_base.specs.Cells.{IsBeUnsigned, Spells, cell_of}
use Rattle.pg_base.specs.Counts.{after_number, cell_checks, has_number}
use Rattle.pg_base.specs.Formats.{Checks, first_fault_of}
use Rattle.pg_types.specs.Faults.{Refusal, size}
use Rattle.pg_cells_c.proofs.WalkSteps.{element_cell_is, is_element, rest_is}
use Rattle.pg_cells_c.specs.Records.{SpellsFieldAt, field_checks}
use Rattle.pg_cells_c.specs.Walks.{StartsItem, element_of}

first_check : (test : Bool) (others : Checks) (r : Refusal) → first_fault_of ((test, size) ∷ []) ≡ Some r
    → first_fault_of ((test, size) ∷ others) ≡ Some r
first_check true others r e = absurd (cc)
first_check false others r e = e

-- an OID that is truncated is the field's fault
pub oid_fault : (s : List ℕ) (r : Refusal) → first_fault_of ((has_number s, size) ∷ []) ≡ Some r
    → first_fault_of (field_checks s) ≡ Some r
oid_fault s r e = first_check (has_number s) (cell_checks (after_number s)) r e

has_four : (n : ℕ) (u : List ℕ) → has_number (to_be_bytes w32 n ++ u) ≡ true
has_four n u = grind (arith, nat_tests, length-append (to_be_bytes w32 n) u)

after_oid : (n : ℕ) (u : List ℕ) (r : Refusal) → first_fault_of (cell_checks u) ≡ Some r
    → first_fault_of (field_checks (to_be_bytes w32 n ++ u)) ≡ Some r
after_oid n u r e = rw (has_four n u) e

-- and after it the fault of the cell is
pub value_fault : (s t u : List ℕ) (n : ℕ) (r : Refusal) → s ≡ t ++ u → IsBeUnsigned w32 t n
    → first_fault_of (cell_checks u) ≡ Some r → first_fault_of (field_checks s) ≡ Some r
value_fault s t u n r parts is e =
    subst (λ s. first_fault_of (field_checks s) ≡ Some r) (sym (parts ∙ ap (λ t. t ++ u) is.1)) (after_oid n u r e)

-- an OID and a value that were split off are a field, by its place
pub field_is : (b t rest u after : List ℕ) (off oid : ℕ) (value : Option (Bor (List ℕ))) → drop off b ≡ t ++ rest
    → IsBeUnsigned w32 t oid → rest ≡ u ++ after → Spells u (cell_of value)
    → StartsItem (SpellsFieldAt b) b (drop off b)
    (record { oid = oid; value = element_of (length b - length after) value }, length b - length after)
field_is b t rest u after off oid value e is f spells =
    let at_rest : drop (length b - length rest) b ≡ u ++ after = rest_is b t rest off e ∙ f in
    let parts : drop off b ≡ (t ++ u) ++ after = e ∙ ap (λ s. t ++ s) f ∙ sym (append_assoc t u after) in
    let value_is = element_cell_is b u after (length b - length rest) value at_rest spells in (
      t ++ u,
      parts ∙ ap (λ r. (t ++ u) ++ r) (sym (rest_is b (t ++ u) after off parts)),
      (
        record {
          front = t;
          rest = u;
          is = refl;
          spells = is;
          rest_spells = subst (Spells u) (sym value_is) spells;
        },
        is_element b u after (length b - length rest) value at_rest spells,
      ),
    )
